-- The loop over the ITEM lines.
use Rattle.std.proofs.Common.{◌≡◌, ℕ, suc, ◌+◌, ◌<◌, ◌≤◌, List, [], ◌∷◌, ◌++◌, map, length, get_or, take, drop, set, Err, Result, sym, refl, ap, ◌∙◌, subst, ⊎_elim, add-zero, arith}
use Rattle.std.proofs.lemmas.Bool.{cases_lt}
use Rattle.std.proofs.lemmas.List.{append_assoc, length-append, length_push, length-drop, drop-drop, drop_at, take_at, drop_more, set_at, get_or_push, get_or_append_left}
use Rattle.sheets.specs.Bytes.{Bytes, Label, item_line, items_text}
use Rattle.sheets.specs.Items.{names_of, places_from, Accepted, Filled, ItemAt, Taken, Refused, Stops, Answers, ItemsRead}
use Rattle.sheets.specs.Labels.{named, nowhere, Absent}
use Rattle.sheets.specs.declared.items_fault.ItemsFault.{ItemsFault}
use Rattle.sheets.specs.declared.place.LabelPlace.{LabelPlace}
use Rattle.sheets.proofs.Parses.{item_bytes}
use Rattle.sheets.proofs.Fronting.{length_item}
use Rattle.sheets.proofs.Naming.{named_in}

-- the items ls are read, up to `at`
pub record Going (text : Bytes) (before places : List LabelPlace) (at count : ℕ) (ls : List Bytes) : Type 0 where
  pub accepted : Accepted ls
  pub many : length ls ≡ count
  pub fits : at ≤ length text
  pub parts : text ≡ items_text 0 ls ++ drop at text
  pub ends : at ≡ length (items_text 0 ls)
  pub memory : Filled before places ls
  pub room : count ≤ length before

items_push : (k : ℕ) (ls : List Bytes) (l : Bytes) → items_text k (ls ++ (l ∷ [])) ≡ items_text k ls ++ (item_line (k + length ls) l ++ (10 ∷ []))
items_push k [] l = rw add-zero
items_push k (m ∷ ms) l =
    let n : suc k + length ms ≡ k + suc (length ms) = omega arith in
    ap (λ (z : Bytes). item_line k m ++ (10 ∷ z)) (items_push (suc k) ms l ∙ rw n) ∙ sym (append_assoc (item_line k m) (10 ∷ items_text (suc k) ms) (item_line (k + suc (length ms)) l ++ (10 ∷ [])))

pub length_items : (k : ℕ) (m : Bytes) (ms : List Bytes) → k < 1000 → length (items_text k (m ∷ ms)) ≡ 10 + length m + length (items_text (suc k) ms)
length_items k m ms h = let a = length-append (item_line k m) (10 ∷ items_text (suc k) ms) in let b = length_item k m h in omega arith

places_push : (k at : ℕ) (ls : List Bytes) (l : Bytes) → k + length ls ≤ 1000 → places_from at (ls ++ (l ∷ [])) ≡ places_from at ls ++ (record { start = at + length (items_text k ls) + 9; len = length l } ∷ [])
places_push k at [] l h = rw add-zero
places_push k at (m ∷ ms) l h =
    let long = length_items k m ms (omega arith) in
    let n : at + 10 + length m + length (items_text (suc k) ms) ≡ at + length (items_text k (m ∷ ms)) = omega arith in
    ap (λ (z : List LabelPlace). record { start = at + 9; len = length m } ∷ z) (places_push (suc k) (at + 10 + length m) ms l (omega arith) ∙ rw n)

pub length_places : (at : ℕ) (ls : List Bytes) → length (places_from at ls) ≡ length ls
length_places at [] = refl
length_places at (l ∷ ls) = ap suc (length_places (at + 10 + length l) ls)

-- what an ITEM line in a text says of its parts
record Split (text : Bytes) (at : ℕ) (l x : Bytes) : Type 0 where
  label : drop (at + 9) text ≡ l ++ (10 ∷ x)
  rest : drop (at + 10 + length l) text ≡ x
  fits : at + 10 + length l ≤ length text

item_split : (text : Bytes) (at k : ℕ) (l x : Bytes) → k < 1000 → drop at text ≡ item_line k l ++ (10 ∷ x) → Split text at l x
item_split text at k l x small e =
    let f = e ∙ ap (λ (z : Bytes). z ++ (10 ∷ x)) (item_bytes k l small) in
    let g = sym (drop-drop 9 at text) ∙ ap (λ (z : Bytes). drop 9 z) f in
    let a : at + 9 + (length l + 1) ≡ at + 10 + length l = omega arith in
    let long = length-drop at text in
    let le = ap length e in
    let b = length-append (item_line k l) (10 ∷ x) in
    let c = length_item k l small in
    record {
      label = g;
      rest = ap (λ n. drop n text) (sym a) ∙ sym (drop-drop (length l + 1) (at + 9) text) ∙ ap (λ (z : Bytes). drop (length l + 1) z) g ∙ sym (drop-drop 1 (length l) (l ++ (10 ∷ x))) ∙ ap (λ (z : Bytes). drop 1 z) (drop_at l (10 ∷ x) (length l) refl);
      fits = omega arith;
    }

-- the places of the labels stand for them
names_places : (text : Bytes) (at k : ℕ) (ls : List Bytes) (rest : Bytes) → k + length ls ≤ 1000 → drop at text ≡ items_text k ls ++ rest → map (named text) (places_from at ls) ≡ ls
names_places text at k [] rest h e = refl
names_places text at k (l ∷ ls) rest h e =
    let s = item_split text at k l (items_text (suc k) ls ++ rest) (omega arith) (e ∙ append_assoc (item_line k l) (10 ∷ items_text (suc k) ls) rest) in
    let fits = s.fits in
    let here : named text (record { start = at + 9; len = length l }) ≡ l =
    named_in text (record { start = at + 9; len = length l }) (omega arith) ∙ ap (λ (z : Bytes). take (length l) z) s.label ∙ take_at l (10 ∷ (items_text (suc k) ls ++ rest)) (length l) refl in
    let there = names_places text (at + 10 + length l) (suc k) ls rest (omega arith) s.rest in
    cc

accepted_push : (ls : List Bytes) (l : Bytes) → Accepted ls → Label l → Absent ls l → length ls < 256 → Accepted (ls ++ (l ∷ []))
accepted_push ls l a lab fresh few =
    let long = length_push ls l in
    record {
      labels = λ i h. ⊎_elim
          (λ (k : i < length ls). subst Label (sym (get_or_append_left ls (l ∷ []) [] i k)) (a.labels i k))
          (λ (k : length ls ≤ i). let e : length ls ≡ i = omega arith in subst Label (sym (get_or_push ls l [] i e)) lab)
          (cases_lt i (length ls));
      apart = λ i j h k e. ⊎_elim
          (λ (d : j < length ls). let c : i < length ls = omega arith in a.apart i j h d (sym (get_or_append_left ls (l ∷ []) [] i c) ∙ e ∙ get_or_append_left ls (l ∷ []) [] j d))
          (λ (d : length ls ≤ j). let c : i < length ls = omega arith in let f : length ls ≡ j = omega arith in fresh i c (sym (get_or_append_left ls (l ∷ []) [] i c) ∙ e ∙ get_or_push ls l [] j f))
          (cases_lt j (length ls));
      few = omega arith;
    }

filled_push : (before : List LabelPlace) (at : ℕ) (ls : List Bytes) (l : Bytes) → length ls ≤ 256 → length ls < length before → at ≡ length (items_text 0 ls) →
    set (places_from 0 ls ++ drop (length ls) before) (length ls) (record { start = at + 9; len = length l }) ≡ places_from 0 (ls ++ (l ∷ [])) ++ drop (length (ls ++ (l ∷ []))) before
filled_push before at ls l few room e =
    let p : LabelPlace = record { start = at + 9; len = length l } in
    let long = length_push ls l in
    let q = places_push 0 0 ls l (omega arith) in
    let z : 0 + length (items_text 0 ls) + 9 ≡ at + 9 = omega arith in
    ap (λ (y : List LabelPlace). set (places_from 0 ls ++ y) (length ls) p) (drop_more before (length ls) nowhere room)
    ∙ set_at (places_from 0 ls) (get_or before (length ls) nowhere) (drop (length ls + 1) before) p (length ls) (length_places 0 ls)
    ∙ sym (append_assoc (places_from 0 ls) (p ∷ []) (drop (length ls + 1) before))
    ∙ rw (long, q, z)

going_more : (text : Bytes) (before places : List LabelPlace) (at count : ℕ) (ls : List Bytes) (l : Bytes) → Going text before places at count ls → ItemAt text at count l → count < 256 → count < length before → Absent ls l →
    Going text before (set places count (record { start = at + 9; len = length l })) (at + 10 + length l) (count + 1) (ls ++ (l ∷ []))
going_more text before places at count ls l g i few room fresh =
    let many = g.many in
    let ends = g.ends in
    let long = length_push ls l in
    let push = items_push 0 ls l in
    let n : 0 + length ls ≡ count = omega arith in
    let a = length-append (items_text 0 ls) (item_line count l ++ (10 ∷ [])) in
    let b = length-append (item_line count l) (10 ∷ []) in
    let c = length_item count l (omega arith) in
    let push2 : items_text 0 (ls ++ (l ∷ [])) ≡ items_text 0 ls ++ (item_line count l ++ (10 ∷ [])) = push ∙ rw n in
    let d = ap length push2 in
    record {
      accepted = accepted_push ls l g.accepted i.label fresh (omega arith);
      many = omega arith;
      fits = i.fits;
      parts = g.parts ∙ ap (λ (z : Bytes). items_text 0 ls ++ z) (i.parts ∙ sym (append_assoc (item_line count l) (10 ∷ []) (drop (at + 10 + length l) text))) ∙ sym (append_assoc (items_text 0 ls) (item_line count l ++ (10 ∷ [])) (drop (at + 10 + length l) text)) ∙ ap (λ (z : Bytes). z ++ drop (at + 10 + length l) text) (sym push2);
      ends = omega arith;
      memory = ap (λ (z : List LabelPlace). set z count (record { start = at + 9; len = length l })) g.memory ∙ ap (λ n. set (places_from 0 ls ++ drop (length ls) before) n (record { start = at + 9; len = length l })) (sym many) ∙ filled_push before at ls l (omega arith) (omega arith) ends;
      room = omega arith;
    }

pub going_names : (text : Bytes) (before places : List LabelPlace) (at count : ℕ) (ls : List Bytes) → Going text before places at count ls → names_of text count places ≡ ls
going_names text before places at count ls g =
    let few = g.accepted.few in
    ap (λ (z : List LabelPlace). map (named text) (take count z)) g.memory
    ∙ ap (λ (z : List LabelPlace). map (named text) z) (take_at (places_from 0 ls) (drop (length ls) before) count (length_places 0 ls ∙ g.many))
    ∙ names_places text 0 0 ls (drop at text) (omega arith) g.parts

pub going_taken : (text : Bytes) (before places : List LabelPlace) (at count n : ℕ) (ls : List Bytes) → Going text before places at count ls → Taken text at count places n → length places ≡ length before →
    (ms : List Bytes) × Going text before (set places count (record { start = at + 9; len = n })) (at + 10 + n) (count + 1) ms
going_taken text before places at count n ls g t same =
    let room = t.room in
    let fresh = subst (λ ns. Absent ns t.label) (going_names text before places at count ls g) t.fresh in (
      ls ++ (t.label ∷ []),
      subst (λ k. Going text before (set places count (record { start = at + 9; len = k })) (at + 10 + k) (count + 1) (ls ++ (t.label ∷ []))) (sym t.long)
          (going_more text before places at count ls t.label g t.item t.few (omega arith) fresh),
    )

-- the answer, where the loop ends
pub going_answer : (text : Bytes) (before places : List LabelPlace) (at count : ℕ) (ls : List Bytes) (r : Result ℕ ItemsFault) → Going text before places at count ls → Answers (length before) ls (drop at text) r → ItemsRead text (length before) r ls
going_answer text before places at count ls r g a = let many = g.many in let room = g.room in
    record { rest = drop at text; parts = g.parts; accepted = g.accepted; room = omega arith; answer = a }

pub going_refused : (text : Bytes) (before places : List LabelPlace) (at count : ℕ) (ls : List Bytes) (f : ItemsFault) → Going text before places at count ls → Refused text at count places f → length places ≡ length before → (Stops (drop at text) → ⊥) → ItemsRead text (length before) (Err f) ls
going_refused text before places at count ls f g ref same go =
    going_answer text before places at count ls (Err f) g (subst (λ n. Answers n ls (drop at text) (Err f)) same (ref ls g.many (going_names text before places at count ls g) go))
