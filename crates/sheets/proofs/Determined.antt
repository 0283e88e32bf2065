-- The bytes decide what the first call answers and reads.
use Rattle.std.proofs.Common.{◌≡◌, ℕ, suc, ◌+◌, ◌<◌, ◌≤◌, List, [], ◌∷◌, ◌++◌, length, get_or, Ok, Err, Result, sym, refl, ap, ◌∙◌, subst, ⊎_elim, add-zero, zero-add, arith}
use Rattle.std.proofs.lemmas.Bool.{cases_order}
use Rattle.std.proofs.lemmas.List.{append_assoc, length-append, get_or_append_left, get_or_at}
use Rattle.sheets.specs.Bytes.{Bytes, Label, item_line, items_text}
use Rattle.sheets.specs.Items.{Fronts, Stops, Answers, stop, none, unformed, many, full, again, Accepted, ItemsRead, too_long, read, Determined, ItemsComeBack}
use Rattle.sheets.specs.Labels.{First}
use Rattle.sheets.specs.declared.items_fault.ItemsFault.{ItemsFault}
use Rattle.sheets.specs.declared.items_fault.ItemsFault.TheVariants.{Unformed, ItemCount, NoPlace, Repeated}
use Rattle.sheets.proofs.Parses.{item_path, item_cuts, item_bytes}
use Rattle.sheets.proofs.Fronting.{line_same, item_plain, number_same, fronts_parts}

-- a line of an item does not stop the items
stops_fronts : (n : ℕ) (x l : Bytes) → n < 1000 → Stops x → Fronts n x l → ⊥
stops_fronts n x l small st f =
    let e = fronts_parts n x l f ∙ ap (λ (z : Bytes). z ++ (10 ∷ f.1.0)) (item_bytes n l small) in
    ⊎_elim (λ (p : x ≡ []). let q = sym p ∙ e in let z : ◌≡◌ {A = ℕ} 0 1 = cc in omega arith)
    (λ t. ⊎_elim (λ b. item_path _ b.0 (sym e ∙ b.1)) (λ b. item_cuts _ b.0 (sym e ∙ b.1)) t) st

-- a text has at most one ITEM line in front
fronts_same : (n : ℕ) (x l m : Bytes) → n < 1000 → Fronts n x l → Fronts n x m → l ≡ m
fronts_same n x l m small f g =
    let p = line_same (item_line n l) (item_line n m) f.1.0 g.1.0 (item_plain n l small f.0) (item_plain n m small g.0) (sym (fronts_parts n x l f) ∙ fronts_parts n x m g) in
    (number_same (item_line n l) n n l m small small refl p.0).1

pub first_same : (ls : List Bytes) (l : Bytes) (i j : ℕ) → First ls l i → First ls l j → i ≡ j
first_same ls l i j f g = ⊎_elim (λ e. e) (λ t. ⊎_elim (λ (h : i < j). absurd (g.lowest i h f.same)) (λ (h : j < i). absurd (f.lowest j h g.same)) t) (cases_order i j)

module _ (places : ℕ) (ls : List Bytes) (x : Bytes) (few : length ls ≤ 256) where
  no_both : {P : Type 0} (l : Bytes) → Stops x → Fronts (length ls) x l → P
  no_both l st f = absurd (stops_fronts (length ls) x l (omega arith) st f)

  same_stop : (r : Result ℕ ItemsFault) → Stops x → 0 < length ls → Answers places ls x r → r ≡ Ok (length ls)
  same_stop r s h (stop st k) = refl
  same_stop r s h (none st k) = absurd (omega arith)
  same_stop r s h (unformed st k) = absurd (st s)
  same_stop r s h (many l f k) = no_both l s f
  same_stop r s h (full l f k m) = no_both l s f
  same_stop r s h (again l i f k m g) = no_both l s f

  same_none : (r : Result ℕ ItemsFault) → Stops x → length ls ≡ 0 → Answers places ls x r → r ≡ Err (ItemCount 0 0)
  same_none r s h (stop st k) = absurd (omega arith)
  same_none r s h (none st k) = refl
  same_none r s h (unformed st k) = absurd (st s)
  same_none r s h (many l f k) = no_both l s f
  same_none r s h (full l f k m) = no_both l s f
  same_none r s h (again l i f k m g) = no_both l s f

  same_unformed : (r : Result ℕ ItemsFault) → (Stops x → ⊥) → ((l : Bytes) → Fronts (length ls) x l → ⊥) → Answers places ls x r → r ≡ Err (Unformed (length ls + 1))
  same_unformed r s h (stop st k) = absurd (s st)
  same_unformed r s h (none st k) = absurd (s st)
  same_unformed r s h (unformed st k) = refl
  same_unformed r s h (many l f k) = absurd (h l f)
  same_unformed r s h (full l f k m) = absurd (h l f)
  same_unformed r s h (again l i f k m g) = absurd (h l f)

  same_many : (r : Result ℕ ItemsFault) (n : Bytes) → Fronts (length ls) x n → length ls ≡ 256 → Answers places ls x r → r ≡ Err (ItemCount 257 257)
  same_many r n fr h (stop st k) = no_both n st fr
  same_many r n fr h (none st k) = no_both n st fr
  same_many r n fr h (unformed st k) = absurd (k n fr)
  same_many r n fr h (many l f k) = refl
  same_many r n fr h (full l f k m) = absurd (omega arith)
  same_many r n fr h (again l i f k m g) = absurd (omega arith)

  same_full : (r : Result ℕ ItemsFault) (n : Bytes) → Fronts (length ls) x n → length ls < 256 → length ls ≡ places → Answers places ls x r → r ≡ Err (NoPlace places (length ls + 1))
  same_full r n fr h u (stop st k) = no_both n st fr
  same_full r n fr h u (none st k) = no_both n st fr
  same_full r n fr h u (unformed st k) = absurd (k n fr)
  same_full r n fr h u (many l f k) = absurd (omega arith)
  same_full r n fr h u (full l f k m) = refl
  same_full r n fr h u (again l i f k m g) = absurd (omega arith)

  same_again : (r : Result ℕ ItemsFault) (n : Bytes) (j : ℕ) → Fronts (length ls) x n → length ls < 256 → length ls < places → First ls n j → Answers places ls x r → r ≡ Err (Repeated (length ls + 1) j)
  same_again r n j fr h u fi (stop st k) = no_both n st fr
  same_again r n j fr h u fi (none st k) = no_both n st fr
  same_again r n j fr h u fi (unformed st k) = absurd (k n fr)
  same_again r n j fr h u fi (many l f k) = absurd (omega arith)
  same_again r n j fr h u fi (full l f k m) = absurd (omega arith)
  same_again r n j fr h u fi (again l i f k m g) =
      let e = fronts_same (length ls) x l n (omega arith) f fr in
      ap (λ (q : ℕ). Err (Repeated (length ls + 1) q)) (first_same ls n i j (subst (λ z. First ls z i) e g) fi)

  answers_same : (r s : Result ℕ ItemsFault) → Answers places ls x r → Answers places ls x s → r ≡ s
  answers_same r s (stop st k) b = sym (same_stop s st k b)
  answers_same r s (none st k) b = sym (same_none s st k b)
  answers_same r s (unformed st k) b = sym (same_unformed s st k b)
  answers_same r s (many l f k) b = sym (same_many s l f k b)
  answers_same r s (full l f k m) b = sym (same_full s l f k m b)
  answers_same r s (again l i f k m g) b = sym (same_again s l i f k m g b)

  -- after the answer there is no further item that could have been read
  no_more : (r : Result ℕ ItemsFault) (l : Bytes) (t : List Bytes) → Answers places ls x r → Accepted (ls ++ (l ∷ t)) → length (ls ++ (l ∷ t)) ≤ places → Fronts (length ls) x l → ⊥
  no_more r l t (stop st k) a room f = no_both l st f
  no_more r l t (none st k) a room f = no_both l st f
  no_more r l t (unformed st k) a room f = k l f
  no_more r l t (many n g k) a room f = let long = length-append ls (l ∷ t) in let w = a.few in omega arith
  no_more r l t (full n g k m) a room f = let long = length-append ls (l ∷ t) in omega arith
  no_more r l t (again n i g k m first) a room f =
      let long = length-append ls (l ∷ t) in
      let there = first.there in
      let e = fronts_same (length ls) x n l (omega arith) g f in
      a.apart i (length ls) there (omega arith) (get_or_append_left ls (l ∷ t) [] i there ∙ first.same ∙ e ∙ sym (get_or_at ls l t [] (length ls) refl))

-- two readings of one text: the same, or one goes on where the other ends
data Compared (k : ℕ) (ls ms : List Bytes) (x y : Bytes) : Type 0 where
  alike : ls ≡ ms → x ≡ y → Compared k ls ms x y
  longer : (l : Bytes) (t : List Bytes) → ls ≡ ms ++ (l ∷ t) → y ≡ items_text (k + length ms) (l ∷ t) ++ x → Compared k ls ms x y
  shorter : (l : Bytes) (t : List Bytes) → ms ≡ ls ++ (l ∷ t) → x ≡ items_text (k + length ls) (l ∷ t) ++ y → Compared k ls ms x y

compared_cons : (k : ℕ) (l : Bytes) (ls ms : List Bytes) (x y : Bytes) → Compared (suc k) ls ms x y → Compared k (l ∷ ls) (l ∷ ms) x y
compared_cons k l ls ms x y (alike p q) = alike (ap (λ (z : List Bytes). l ∷ z) p) q
compared_cons k l ls ms x y (longer n t p q) = let e : suc k + length ms ≡ k + suc (length ms) = omega arith in longer n t (ap (λ (z : List Bytes). l ∷ z) p) (q ∙ rw e)
compared_cons k l ls ms x y (shorter n t p q) = let e : suc k + length ls ≡ k + suc (length ls) = omega arith in shorter n t (ap (λ (z : List Bytes). l ∷ z) p) (q ∙ rw e)

abbrev Labeled : List Bytes → Type 0
Labeled ls = (i : ℕ) → i < length ls → Label (get_or ls i [])

compare_items : (k : ℕ) (ls ms : List Bytes) (x y : Bytes) → k + length ls ≤ 1000 → Labeled ls → Labeled ms → items_text k ls ++ x ≡ items_text k ms ++ y → Compared k ls ms x y
compare_items k [] [] x y h a b e = alike refl e
compare_items k [] (m ∷ ms) x y h a b e = shorter m ms refl (e ∙ ap (λ (n : ℕ). items_text n (m ∷ ms) ++ y) (sym (add-zero k)))
compare_items k (l ∷ ls) [] x y h a b e = longer l ls refl (sym e ∙ ap (λ (n : ℕ). items_text n (l ∷ ls) ++ x) (sym (add-zero k)))
compare_items k (l ∷ ls) (m ∷ ms) x y h a b e =
    let small : k < 1000 = omega arith in
    let la : Label l = a 0 (omega arith) in
    let lb : Label m = b 0 (omega arith) in
    let p = line_same (item_line k l) (item_line k m) (items_text (suc k) ls ++ x) (items_text (suc k) ms ++ y) (item_plain k l small la) (item_plain k m small lb)
    (sym (append_assoc (item_line k l) (10 ∷ items_text (suc k) ls) x) ∙ e ∙ append_assoc (item_line k m) (10 ∷ items_text (suc k) ms) y) in
    let same = (number_same (item_line k l) k k l m small small refl p.0).1 in
    let c = compare_items (suc k) ls ms x y (omega arith) (λ i h. a (suc i) (omega arith)) (λ i h. b (suc i) (omega arith)) p.1 in
    subst (λ z. Compared k (l ∷ ls) (z ∷ ms) x y) same (compared_cons k l ls ms x y c)

fronts_items : (n : ℕ) (x y l : Bytes) (t : List Bytes) → Label l → x ≡ items_text n (l ∷ t) ++ y → Fronts n x l
fronts_items n x y l t lab e = (lab, (items_text (suc n) t ++ y, e ∙ append_assoc (item_line n l) (10 ∷ items_text (suc n) t) y ∙ sym (append_assoc (item_line n l) (10 ∷ []) (items_text (suc n) t ++ y))))

goes_on : (places : ℕ) (ls ms : List Bytes) (x y l : Bytes) (t : List Bytes) (r : Result ℕ ItemsFault) → Accepted ls → Accepted ms → length ms ≤ places → Answers places ls x r → ms ≡ ls ++ (l ∷ t) → x ≡ items_text (0 + length ls) (l ∷ t) ++ y → ⊥
goes_on places ls ms x y l t r a b room answer e f =
    let long = length-append ls (l ∷ t) in
    let c = subst Accepted e b in
    let w = subst (λ (z : List Bytes). length z ≤ places) e room in
    let few = a.few in
    let lab : Label l = subst Label (get_or_at ls l t [] (length ls) refl) (c.labels (length ls) (omega arith)) in
    no_more places ls x few r l t answer c w (fronts_items (length ls) x y l t lab (f ∙ ap (λ (n : ℕ). items_text n (l ∷ t) ++ y) (zero-add (length ls))))

items_read_same : (text : Bytes) (places : ℕ) (r s : Result ℕ ItemsFault) (ls ms : List Bytes) → ItemsRead text places r ls → ItemsRead text places s ms → (r ≡ s) × (ls ≡ ms)
items_read_same text places r s ls ms p q = same (compare_items 0 ls ms p.rest q.rest (let few = p.accepted.few in omega arith) p.accepted.labels q.accepted.labels (sym p.parts ∙ q.parts))
  where
    same : Compared 0 ls ms p.rest q.rest → (r ≡ s) × (ls ≡ ms)
    same (alike e f) = (answers_same places ms q.rest q.accepted.few r s (subst (λ z. Answers places z q.rest r) e (subst (λ z. Answers places ls z r) f p.answer)) q.answer, e)
    same (longer l t e f) = absurd (goes_on places ms ls q.rest p.rest l t s q.accepted p.accepted p.room q.answer e f)
    same (shorter l t e f) = absurd (goes_on places ls ms p.rest q.rest l t r p.accepted q.accepted q.room p.answer e f)

pub determined : Determined
determined text places r s ls ms (too_long h) (too_long k) = (refl, refl)
determined text places r s ls ms (too_long h) (read t ns k q) = absurd (omega arith)
determined text places r s ls ms (read t ns h p) (too_long k) = absurd (omega arith)
determined text places r s ls ms (read t ns h p) (read u os k q) = items_read_same text places t u ns os p q

pub items_back : ItemsComeBack
items_back ls rest places r ms a some room st short back =
    let n : 0 < length ls = omega arith in
    let p = determined (items_text 0 ls ++ rest) places r (Ok (length ls)) ms ls back (read (Ok (length ls)) ls short (record { rest = rest; parts = refl; accepted = a; room = room; answer = stop st n })) in
    (p.0, p.1)
