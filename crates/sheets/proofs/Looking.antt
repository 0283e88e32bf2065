-- The loop that looks up the labels of a row.
use Rattle.std.proofs.Common.{◌≡◌, ℕ, ◌+◌, ◌<◌, ◌≤◌, List, [], ◌∷◌, ◌++◌, length, take, set, length-set, append_assoc, sym, refl, ap, ◌∙◌, subst, arith, length-append}
use Rattle.std.proofs.lemmas.List.{append-nil, length_push, take_all, take_more_set, take-append-le, get_or_at}
use Rattle.sheets.specs.Bytes.{Bytes, Labels, Row, spaced}
use Rattle.sheets.specs.Runs.{Named}
use Rattle.sheets.specs.Labels.{First, Absent}
use Rattle.sheets.specs.Looks.{Looked, looked_none, looked_more, Lost}
use Rattle.sheets.proofs.Spans.{named_on}

spaced_append : (ls ms : List Bytes) → spaced (ls ++ ms) ≡ spaced ls ++ spaced ms
spaced_append [] ms = refl
spaced_append (l ∷ ls) ms = ap (λ (z : Bytes). 32 ∷ (l ++ z)) (spaced_append ls ms) ∙ ap (λ (z : Bytes). 32 ∷ z) (sym (append_assoc l (spaced ls) (spaced ms)))

labels_append : (ls ms : List Bytes) → Labels ls → Labels ms → Labels (ls ++ ms)
labels_append [] ms a b = b
labels_append (l ∷ ls) ms a b = (a.0, labels_append ls ms a.1 b)

looked_push : (names ls : List Bytes) (ks : List ℕ) (l : Bytes) (k : ℕ) → Looked names ls ks → First names l k → Looked names (ls ++ l ∷ []) (ks ++ k ∷ [])
looked_push names ls ks l k looked_none f = looked_more l k [] [] f looked_none
looked_push names ls ks l k (looked_more m j ms js g r) f = looked_more m j (ms ++ l ∷ []) (js ++ k ∷ []) g (looked_push names ms js l k r f)

-- the memory has the first of the numbers
abbrev Stored : List ℕ → List ℕ → Type 0
Stored memory ks = take (length ks) memory ≡ take (length memory) ks

stored_front : (memory ks : List ℕ) (k : ℕ) → length ks < length memory → Stored memory ks → Stored (set memory (length ks) k) (ks ++ k ∷ [])
stored_front memory ks k room s =
    let long = length_push ks k in
    let same : length (set memory (length ks) k) ≡ length memory = simp length-set in
    ap (λ (n : ℕ). take n (set memory (length ks) k)) long ∙ take_more_set memory (length ks) k room ∙ ap (λ (z : List ℕ). z ++ k ∷ []) (s ∙ take_all (length memory) ks (omega arith))
    ∙ sym (take_all (length (set memory (length ks) k)) (ks ++ k ∷ []) (omega arith))

stored_full : (memory ks : List ℕ) (k : ℕ) → length memory ≤ length ks → Stored memory ks → Stored memory (ks ++ k ∷ [])
stored_full memory ks k full s =
    let long = length_push ks k in
    take_all (length (ks ++ k ∷ [])) memory (omega arith) ∙ sym (take_all (length ks) memory full) ∙ s ∙ sym (take-append-le (length memory) ks (k ∷ []) full)

-- the labels before `rest` are looked up
pub record Looking (names : List Bytes) (row memory rest : Bytes) (count : ℕ) : Type 0 where
  pub labels : List Bytes
  pub items : List ℕ
  pub formed : Labels labels
  pub parts : row ≡ spaced labels ++ rest
  pub looked : Looked names labels items
  pub many : length items ≡ count
  pub stored : Stored memory items
  pub left : Row rest
  pub low : count + length rest ≤ length row

pub looking_none : (names : List Bytes) (row memory : List ℕ) → Row row → Looking names row memory row 0
looking_none names row memory r = record { labels = []; items = []; formed = tt; parts = refl; looked = looked_none; many = refl; stored = sym (take_all (length memory) [] (omega arith)); left = r; low = omega arith }

module _ (names : List Bytes) (row memory rest : List ℕ) (count : ℕ) (g : Looking names row memory rest count) (l left : Bytes) (n : Named rest l left) where
  next_parts : row ≡ spaced (g.labels ++ l ∷ []) ++ left
  next_parts = g.parts ∙ ap (λ (z : Bytes). spaced g.labels ++ z) (n.parts ∙ ap (λ (z : Bytes). 32 ∷ (z ++ left)) (sym (append-nil l))) ∙ sym (append_assoc (spaced g.labels) (spaced (l ∷ [])) left)
      ∙ ap (λ (z : Bytes). z ++ left) (sym (spaced_append g.labels (l ∷ [])))

  shorter : length left < length rest
  shorter = let e = ap length n.parts in let a = length-append l left in omega arith

  looking_next : (k : ℕ) (later : List ℕ) → First names l k → Stored later (g.items ++ k ∷ []) → Looking names row later left (count + 1)
  looking_next k later f s =
      let many = g.many in
      let long = length_push g.items k in
      let low = g.low in
      let less = shorter in
      record {
        labels = g.labels ++ l ∷ [];
        items = g.items ++ k ∷ [];
        formed = labels_append g.labels (l ∷ []) g.formed (n.formed, tt);
        parts = next_parts;
        looked = looked_push names g.labels g.items l k g.looked f;
        many = omega arith;
        stored = s;
        left = named_on rest l left n g.left;
        low = omega arith;
      }

  pub looking_kept : (k : ℕ) → First names l k → count < length memory → Looking names row (set memory count k) left (count + 1)
  looking_kept k f room =
      let many = g.many in
      looking_next k (set memory count k) f (subst (λ (z : ℕ). Stored (set memory z k) (g.items ++ k ∷ [])) many (stored_front memory g.items k (omega arith) g.stored))

  pub looking_over : (k : ℕ) → First names l k → length memory ≤ count → Looking names row memory left (count + 1)
  looking_over k f full = let many = g.many in looking_next k memory f (stored_full memory g.items k (omega arith) g.stored)

  pub looking_lost : Absent names l → Lost names row
  looking_lost a =
      let t = named_on rest l left n g.left in
      record {
        labels = g.labels ++ l ∷ t.0;
        formed = labels_append g.labels (l ∷ t.0) g.formed (n.formed, t.1);
        parts = g.parts ∙ ap (λ (z : Bytes). spaced g.labels ++ z) (n.parts ∙ ap (λ (z : Bytes). 32 ∷ (l ++ z)) t.2) ∙ sym (spaced_append g.labels (l ∷ t.0));
        place = length g.labels;
        there = let e = length-append g.labels (l ∷ t.0) in omega arith;
        absent = subst (λ (z : Bytes). Absent names z) (sym (get_or_at g.labels l t.0 [] (length g.labels) refl)) a;
      }
