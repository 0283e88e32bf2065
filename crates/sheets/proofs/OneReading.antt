-- The second call has one reply, and leaves one list of rows of each table.
use Rattle.std.proofs.Common.{◌≡◌, ◌≢◌, ℕ, zero, suc, ◌+◌, ◌<◌, cond, eqb, List, [], ◌∷◌, ◌++◌, length, map, get_or, codes, Ok, Err, Result, append_assoc, length-append, sym, refl, ap, ap₂, ◌∙◌, subst, arith}
use Rattle.std.proofs.lemmas.Bool.Decides.{nat_tests}
use Rattle.std.proofs.lemmas.List.{append_cancel_left}
use Rattle.sets.specs.Sets.{Numbers}
use Rattle.tables.specs.Refusals.{Reply, answered, refused, table_refusal}
use Rattle.tables.specs.Calls.{Puts}
use Rattle.tables.specs.declared.fault.TableFault.{TableFault}
use Rattle.tables.specs.declared.fault.TableFault.TheVariants.{ItemCount as Closed, NoSuchItem, Repeated, CannotHold, Contains, Full, NoSuchRow}
use Rattle.tables.proofs.Determined.{one_reply}
use Rattle.duality.specs.declared.fault.PairFault.{PairFault}
use Rattle.duality.specs.declared.fault.PairFault.TheVariants.{ItemCount, CountsDiffer}
use Rattle.sheets.specs.Bytes.{Bytes, Labels, spaced}
use Rattle.sheets.specs.Counts.{Counts, paths_closed, cuts_closed, tables_differ, labels_differ, counts_fit}
use Rattle.sheets.specs.Labels.{named, Absent}
use Rattle.sheets.specs.Looks.{Looked, looked_none, looked_more}
use Rattle.sheets.specs.Runs.{Visible}
use Rattle.sheets.specs.Rows.{RowLine, path_row, cuts_row, labels_of, line_of, rows_text, RowFronts, Run, run_none, run_path, run_cuts, RowsEnd, end_all, end_unformed, end_lost, end_path, end_cuts, RowsRead}
use Rattle.sheets.specs.RowsCalls.{RowsCall, not_fit, too_long, rows_read, OneReading}
use Rattle.sheets.specs.RowsFaults.{unfit}
use Rattle.sheets.specs.Skips.{Skips, skip_stop, skip_last, skip_line}
use Rattle.sheets.specs.declared.place.LabelPlace.{LabelPlace}
use Rattle.sheets.specs.declared.rows_fault.RowsFault.{RowsFault}
use Rattle.sheets.specs.declared.rows_fault.RowsFault.TheVariants.{Unformed, NoItem, Put}
use Rattle.sheets.proofs.Parses.{path_cuts}
use Rattle.sheets.proofs.Determined.{first_same}
use Rattle.sheets.proofs.Fronting.{feed_apart, line_same}
use Rattle.sheets.proofs.RowFronting.{row_plain, row_parts}
use Rattle.sheets.proofs.Spans.{span_same, halts_spaced}

-- ---- a refusal of a table has one fault

fault_of : ℕ → List ℕ → TableFault
fault_of number [] = Full 0
fault_of number (v ∷ vs) = cond (eqb number 1) (Closed v) (cond (eqb number 2) (NoSuchItem v) (cond (eqb number 3) (Repeated v) (cond (eqb number 4) (CannotHold v) (cond (eqb number 5) (Contains v) (cond (eqb number 6) (Full v) (NoSuchRow v))))))

fault_back : (f : TableFault) → fault_of (table_refusal f).number (table_refusal f).values ≡ f
unfolding fault_of
fault_back (Closed v) = refl
fault_back (NoSuchItem v) = refl
fault_back (Repeated v) = refl
fault_back (CannotHold v) = refl
fault_back (Contains v) = refl
fault_back (Full v) = refl
fault_back (NoSuchRow v) = refl

abbrev refusing : TableFault → Reply ℕ
refusing f = refused (table_refusal f).number (table_refusal f).values

fault_same : (f g : TableFault) → refusing f ≡ refusing g → f ≡ g
fault_same f g e =
    let a : (table_refusal f).number ≡ (table_refusal g).number = cc in
    let b : (table_refusal f).values ≡ (table_refusal g).values = cc in
    sym (fault_back f) ∙ ap₂ fault_of a b ∙ fault_back g

-- ---- the row in front of a text

spaced_same : (ls ms : List Bytes) → Labels ls → Labels ms → spaced ls ≡ spaced ms → ls ≡ ms
spaced_same [] [] a b e = refl
spaced_same [] (m ∷ ms) a b e = absurd (cc)
spaced_same (l ∷ ls) [] a b e = absurd (cc)
spaced_same (l ∷ ls) (m ∷ ms) a b e =
    let t : l ++ spaced ls ≡ m ++ spaced ms = cc in
    let p = span_same Visible l m (spaced ls) (spaced ms) a.0.bytes b.0.bytes (halts_spaced ls) (halts_spaced ms) t in
    let q = p.0 in
    let r = spaced_same ls ms a.1 b.1 p.1 in
    cc

line_of_same : (r s : RowLine) → Labels (labels_of r) → Labels (labels_of s) → line_of r ≡ line_of s → r ≡ s
line_of_same (path_row ls) (path_row ms) a b e = ap path_row (spaced_same ls ms a b (append_cancel_left (codes "PATH") (spaced ls) (spaced ms) e))
line_of_same (path_row ls) (cuts_row ms) a b e = absurd (path_cuts (spaced ls) (spaced ms) e)
line_of_same (cuts_row ls) (path_row ms) a b e = absurd (path_cuts (spaced ms) (spaced ls) (sym e))
line_of_same (cuts_row ls) (cuts_row ms) a b e = ap cuts_row (spaced_same ls ms a b (append_cancel_left (codes "CUTS") (spaced ls) (spaced ms) e))

front_same : (rest : Bytes) (r s : RowLine) → RowFronts rest r → RowFronts rest s → r ≡ s
front_same rest r s f g = line_of_same r s f.0 g.0 (line_same (line_of r) (line_of s) _ _ (row_plain r f.0) (row_plain s g.0) (sym (row_parts rest r f) ∙ row_parts rest s g)).0

front_some : (rest : Bytes) (r : RowLine) → RowFronts rest r → rest ≡ [] → ⊥
front_some rest r f e = let l = ap length (sym e ∙ row_parts rest r f) in let m = length-append (line_of r) (10 ∷ f.1.0) in omega arith

-- ---- what labels name

looked_same : (names ls : List Bytes) (ks js : List ℕ) → Looked names ls ks → Looked names ls js → ks ≡ js
looked_same names ls ks js looked_none looked_none = refl
looked_same names ls ks js (looked_more l k ms is f a) (looked_more m j ns os g b) = let p = first_same names l k j f g in let q = looked_same names ms is os a b in cc

looked_there : (names ls : List Bytes) (ks : List ℕ) (i : ℕ) → Looked names ls ks → i < length ls → Absent names (get_or ls i []) → ⊥
looked_there names ls ks i looked_none h ab = omega arith
looked_there names ls ks zero (looked_more l k ms is f a) h ab = ab k f.there f.same
looked_there names ls ks (suc i) (looked_more l k ms is f a) h ab = looked_there names ms is i a (omega arith) ab

-- ---- two readings of one text

abbrev Formed : List RowLine → Type 0
Formed [] = Unit {0}
Formed (r ∷ rs) = Labels (labels_of r) × Formed rs

data Compared (rs ss : List RowLine) (x y : Bytes) : Type 0 where
  alike : rs ≡ ss → x ≡ y → Compared rs ss x y
  longer : (r : RowLine) (t : List RowLine) → Labels (labels_of r) → rs ≡ ss ++ (r ∷ t) → y ≡ rows_text (r ∷ t) ++ x → Compared rs ss x y
  shorter : (r : RowLine) (t : List RowLine) → Labels (labels_of r) → ss ≡ rs ++ (r ∷ t) → x ≡ rows_text (r ∷ t) ++ y → Compared rs ss x y

compared_cons : (r : RowLine) (rs ss : List RowLine) (x y : Bytes) → Compared rs ss x y → Compared (r ∷ rs) (r ∷ ss) x y
compared_cons r rs ss x y (alike p q) = alike (ap (λ (z : List RowLine). r ∷ z) p) q
compared_cons r rs ss x y (longer s t a p q) = longer s t a (ap (λ (z : List RowLine). r ∷ z) p) q
compared_cons r rs ss x y (shorter s t a p q) = shorter s t a (ap (λ (z : List RowLine). r ∷ z) p) q

compare_rows : (rs ss : List RowLine) (x y : Bytes) → Formed rs → Formed ss → rows_text rs ++ x ≡ rows_text ss ++ y → Compared rs ss x y
compare_rows [] [] x y a b e = alike refl e
compare_rows [] (s ∷ ss) x y a b e = shorter s ss b.0 refl e
compare_rows (r ∷ rs) [] x y a b e = longer r rs a.0 refl (sym e)
compare_rows (r ∷ rs) (s ∷ ss) x y a b e =
    let p = line_same (line_of r) (line_of s) (rows_text rs ++ x) (rows_text ss ++ y) (row_plain r a.0) (row_plain s b.0)
    (sym (append_assoc (line_of r) (10 ∷ rows_text rs) x) ∙ e ∙ append_assoc (line_of s) (10 ∷ rows_text ss) y) in
    subst (λ z. Compared (r ∷ rs) (z ∷ ss) x y) (line_of_same r s a.0 b.0 p.0) (compared_cons r rs ss x y (compare_rows rs ss x y a.1 b.1 p.1))

module _ (n a b : ℕ) (holds : Numbers → Type 0) (names : List Bytes) where
  put_same : (capacity : ℕ) (ps us vs : List Numbers) (ls : List Bytes) (ks js : List ℕ) (r s : Reply ℕ) → Looked names ls ks → Looked names ls js
      → Puts n capacity holds ps ks r us → Puts n capacity holds ps js s vs → (r ≡ s) × (us ≡ vs)
  put_same capacity ps us vs ls ks js r s lk lj p q =
      (one_reply holds).puts n capacity ps js r s us vs (subst (λ (z : List ℕ). Puts n capacity holds ps z r us) (looked_same names ls ks js lk lj) p) q

  run_formed : (ps cs qs ds : List Numbers) (rs : List RowLine) → Run n a b holds names ps cs rs qs ds → Formed rs
  run_formed ps cs qs ds rs (run_none x y) = tt
  run_formed ps cs qs ds rs (run_path x y u z e ls ks m ts f l p more) = (f, run_formed u y z e ts more)
  run_formed ps cs qs ds rs (run_cuts x y u z e ls ks m ts f l p more) = (f, run_formed x u z e ts more)

  run_same : (ps cs qs ds us vs : List Numbers) (rs : List RowLine) → Run n a b holds names ps cs rs qs ds → Run n a b holds names ps cs rs us vs → (qs ≡ us) × (ds ≡ vs)
  run_same ps cs qs ds us vs rs (run_none x y) (run_none z w) = (refl, refl)
  run_same ps cs qs ds us vs rs (run_path x y u z e ls ks m ts f l p more) (run_path x2 y2 u2 z2 e2 ls2 ks2 m2 ts2 f2 l2 p2 more2) =
      run_same u y qs ds us vs ts more (subst (λ (w : List Numbers). Run n a b holds names w y ts us vs) (sym (put_same a x u u2 ls ks ks2 _ _ l l2 p p2).1) more2)
  run_same ps cs qs ds us vs rs (run_cuts x y u z e ls ks m ts f l p more) (run_cuts x2 y2 u2 z2 e2 ls2 ks2 m2 ts2 f2 l2 p2 more2) =
      run_same x u qs ds us vs ts more (subst (λ (w : List Numbers). Run n a b holds names x w ts us vs) (sym (put_same b y u u2 ls ks ks2 _ _ l l2 p p2).1) more2)

  run_split : (rs : List RowLine) (ps cs us vs : List Numbers) (r : RowLine) (t : List RowLine) → Run n a b holds names ps cs (rs ++ (r ∷ t)) us vs
      → (qs ds : List Numbers) × Run n a b holds names ps cs rs qs ds × Run n a b holds names qs ds (r ∷ t) us vs
  run_split [] ps cs us vs r t run = (ps, cs, run_none ps cs, run)
  run_split (s ∷ rs) ps cs us vs r t (run_path x y w z e ls ks m ts f l p more) = let h = run_split rs w y us vs r t more in (h.0, h.1, run_path x y w h.0 h.1 ls ks m rs f l p h.2, h.3)
  run_split (s ∷ rs) ps cs us vs r t (run_cuts x y w z e ls ks m ts f l p more) = let h = run_split rs x w us vs r t more in (h.0, h.1, run_cuts x y w h.0 h.1 ls ks m rs f l p h.2, h.3)

  -- ---- a row that was put is neither lost nor refused

  ran_lost : (ps cs us vs : List Numbers) (r : RowLine) (t : List RowLine) (i : ℕ) → Run n a b holds names ps cs (r ∷ t) us vs → i < length (labels_of r) → Absent names (get_or (labels_of r) i []) → ⊥
  ran_lost ps cs us vs r t i (run_path x y w z e ls ks m ts f l p more) h ab = looked_there names ls ks i l h ab
  ran_lost ps cs us vs r t i (run_cuts x y w z e ls ks m ts f l p more) h ab = looked_there names ls ks i l h ab

  ran_path : (ps cs us vs qs : List Numbers) (ls : List Bytes) (js : List ℕ) (t : List RowLine) (f : TableFault) → Run n a b holds names ps cs (path_row ls ∷ t) us vs → Looked names ls js → Puts n a holds ps js (refusing f) qs → ⊥
  ran_path ps cs us vs qs ls js t f (run_path x y w z e ms ks m ts g l p more) lj q = let s = put_same a x w qs ls ks js (answered m) (refusing f) l lj p q in let d = s.0 in absurd (cc)

  ran_cuts : (ps cs us vs qs : List Numbers) (ls : List Bytes) (js : List ℕ) (t : List RowLine) (f : TableFault) → Run n a b holds names ps cs (cuts_row ls ∷ t) us vs → Looked names ls js → Puts n b holds cs js (refusing f) qs → ⊥
  ran_cuts ps cs us vs qs ls js t f (run_cuts x y w z e ms ks m ts g l p more) lj q = let s = put_same b y w qs ls ks js (answered m) (refusing f) l lj p q in let d = s.0 in absurd (cc)

  end_clash : (ps cs us vs qs ds : List Numbers) (rest : Bytes) (nth : ℕ) (x : RowLine) (t : List RowLine) (r : Result (Unit {0}) RowsFault) → RowsEnd n a b holds names ps cs rest nth r qs ds
      → Run n a b holds names ps cs (x ∷ t) us vs → RowFronts rest x → ⊥
  end_clash ps cs us vs qs ds rest nth x t r (end_all e) run fr = front_some rest x fr e
  end_clash ps cs us vs qs ds rest nth x t r (end_unformed e bad) run fr = bad x fr
  end_clash ps cs us vs qs ds rest nth x t r (end_lost y g i h ab) run fr = ran_lost ps cs us vs y t i (subst (λ z. Run n a b holds names ps cs (z ∷ t) us vs) (front_same rest x y fr g) run) h ab
  end_clash ps cs us vs qs ds rest nth x t r (end_path ls ks f w g l p) run fr = ran_path ps cs us vs w ls ks t f (subst (λ z. Run n a b holds names ps cs (z ∷ t) us vs) (front_same rest x (path_row ls) fr g) run) l p
  end_clash ps cs us vs qs ds rest nth x t r (end_cuts ls ks f w g l p) run fr = ran_cuts ps cs us vs w ls ks t f (subst (λ z. Run n a b holds names ps cs (z ∷ t) us vs) (front_same rest x (cuts_row ls) fr g) run) l p

  -- ---- how it ends

  module _ (us vs : List Numbers) (rest : Bytes) (nth : ℕ) where
    abbrev Same : Result (Unit {0}) RowsFault → List Numbers → List Numbers → Result (Unit {0}) RowsFault → List Numbers → List Numbers → Type 0
    Same r qs ds s xs ys = (r ≡ s) × (qs ≡ xs) × (ds ≡ ys)

    same_all : rest ≡ [] → (s : Result (Unit {0}) RowsFault) (xs ys : List Numbers) → RowsEnd n a b holds names us vs rest nth s xs ys → Same (Ok tt) us vs s xs ys
    same_all z s xs ys (end_all e) = (refl, refl, refl)
    same_all z s xs ys (end_unformed e f) = absurd (e z)
    same_all z s xs ys (end_lost y g i h ab) = absurd (front_some rest y g z)
    same_all z s xs ys (end_path ls ks f w g l p) = absurd (front_some rest (path_row ls) g z)
    same_all z s xs ys (end_cuts ls ks f w g l p) = absurd (front_some rest (cuts_row ls) g z)

    same_unformed : rest ≢ [] → ((r : RowLine) → RowFronts rest r → ⊥) → (s : Result (Unit {0}) RowsFault) (xs ys : List Numbers) → RowsEnd n a b holds names us vs rest nth s xs ys → Same (Err (Unformed nth)) us vs s xs ys
    same_unformed z bad s xs ys (end_all e) = absurd (z e)
    same_unformed z bad s xs ys (end_unformed e f) = (refl, refl, refl)
    same_unformed z bad s xs ys (end_lost y g i h ab) = absurd (bad y g)
    same_unformed z bad s xs ys (end_path ls ks f w g l p) = absurd (bad (path_row ls) g)
    same_unformed z bad s xs ys (end_cuts ls ks f w g l p) = absurd (bad (cuts_row ls) g)

    module _ (x : RowLine) (fr : RowFronts rest x) (i : ℕ) (h : i < length (labels_of x)) (ab : Absent names (get_or (labels_of x) i [])) where
      found_lost : (y : RowLine) (ks : List ℕ) → RowFronts rest y → Looked names (labels_of y) ks → ⊥
      found_lost y ks g l =
          let e = front_same rest x y fr g in
          looked_there names (labels_of y) ks i l (subst (λ z. i < length (labels_of z)) e h) (subst (λ z. Absent names (get_or (labels_of z) i [])) e ab)

      same_lost : (s : Result (Unit {0}) RowsFault) (xs ys : List Numbers) → RowsEnd n a b holds names us vs rest nth s xs ys → Same (Err (NoItem nth)) us vs s xs ys
      same_lost s xs ys (end_all e) = absurd (front_some rest x fr e)
      same_lost s xs ys (end_unformed e f) = absurd (f x fr)
      same_lost s xs ys (end_lost y g j k aa) = (refl, refl, refl)
      same_lost s xs ys (end_path ls ks f w g l p) = absurd (found_lost (path_row ls) ks g l)
      same_lost s xs ys (end_cuts ls ks f w g l p) = absurd (found_lost (cuts_row ls) ks g l)

    refused_same : (capacity : ℕ) (ps qs xs : List Numbers) (ls ms : List Bytes) (ks js : List ℕ) (f g : TableFault) → ls ≡ ms → Looked names ls ks → Looked names ms js
        → Puts n capacity holds ps ks (refusing f) qs → Puts n capacity holds ps js (refusing g) xs → (f ≡ g) × (qs ≡ xs)
    refused_same capacity ps qs xs ls ms ks js f g e l k p q =
        let s = put_same capacity ps qs xs ms ks js (refusing f) (refusing g) (subst (λ z. Looked names z ks) e l) k p q in (fault_same f g s.0, s.1)

    module _ (ls : List Bytes) (ks : List ℕ) (f : TableFault) (qs : List Numbers) (l : Looked names ls ks) where
      same_path : RowFronts rest (path_row ls) → Puts n a holds us ks (refusing f) qs → (s : Result (Unit {0}) RowsFault) (xs ys : List Numbers) → RowsEnd n a b holds names us vs rest nth s xs ys → Same (Err (Put f nth)) qs vs s xs ys
      same_path fr p s xs ys (end_all e) = absurd (front_some rest (path_row ls) fr e)
      same_path fr p s xs ys (end_unformed e bad) = absurd (bad (path_row ls) fr)
      same_path fr p s xs ys (end_lost y g i h ab) = absurd (found_lost y g i h ab (path_row ls) ks fr l)
      same_path fr p s xs ys (end_path ms js t w g k q) =
          let e = front_same rest (path_row ls) (path_row ms) fr g in
          let d = refused_same a us qs w ls ms ks js f t (cc) l k p q in
          (ap (λ z. Err (Put z nth)) d.0, d.1, refl)
      same_path fr p s xs ys (end_cuts ms js t w g k q) = let e = front_same rest (path_row ls) (cuts_row ms) fr g in absurd (cc)

      same_cuts : RowFronts rest (cuts_row ls) → Puts n b holds vs ks (refusing f) qs → (s : Result (Unit {0}) RowsFault) (xs ys : List Numbers) → RowsEnd n a b holds names us vs rest nth s xs ys → Same (Err (Put f nth)) us qs s xs ys
      same_cuts fr p s xs ys (end_all e) = absurd (front_some rest (cuts_row ls) fr e)
      same_cuts fr p s xs ys (end_unformed e bad) = absurd (bad (cuts_row ls) fr)
      same_cuts fr p s xs ys (end_lost y g i h ab) = absurd (found_lost y g i h ab (cuts_row ls) ks fr l)
      same_cuts fr p s xs ys (end_path ms js t w g k q) = let e = front_same rest (cuts_row ls) (path_row ms) fr g in absurd (cc)
      same_cuts fr p s xs ys (end_cuts ms js t w g k q) =
          let e = front_same rest (cuts_row ls) (cuts_row ms) fr g in
          let d = refused_same b vs qs w ls ms ks js f t (cc) l k p q in
          (ap (λ z. Err (Put z nth)) d.0, refl, d.1)

    end_same : (r s : Result (Unit {0}) RowsFault) (qs ds xs ys : List Numbers) → RowsEnd n a b holds names us vs rest nth r qs ds → RowsEnd n a b holds names us vs rest nth s xs ys → Same r qs ds s xs ys
    end_same r s qs ds xs ys (end_all e) h = same_all e s xs ys h
    end_same r s qs ds xs ys (end_unformed e f) h = same_unformed e f s xs ys h
    end_same r s qs ds xs ys (end_lost y g i k ab) h = same_lost y g i k ab s xs ys h
    end_same r s qs ds xs ys (end_path ls ks f w g l p) h = same_path ls ks f w l g p s xs ys h
    end_same r s qs ds xs ys (end_cuts ls ks f w g l p) h = same_cuts ls ks f w l g p s xs ys h

  -- ---- the whole reading

  module _ (text : Bytes) (nth : ℕ) (ps cs : List Numbers) where
    -- one reading has not a row more than another
    no_more : (r s : Result (Unit {0}) RowsFault) (qs ds xs ys : List Numbers) (h : RowsRead n a b holds names text nth ps cs r qs ds) (k : RowsRead n a b holds names text nth ps cs s xs ys)
        → (x : RowLine) (t : List RowLine) → Labels (labels_of x) → h.rows ≡ k.rows ++ (x ∷ t) → k.rest ≡ rows_text (x ∷ t) ++ h.rest → ⊥
    no_more r s qs ds xs ys h k x t formed e f =
        let d = run_split k.rows ps cs h.us h.vs x t (subst (λ z. Run n a b holds names ps cs z h.us h.vs) e h.run) in
        let m = run_same ps cs d.0 d.1 k.us k.vs k.rows d.2 k.run in
        let go = subst (λ (z : List Numbers). Run n a b holds names k.us z (x ∷ t) h.us h.vs) m.1 (subst (λ (z : List Numbers). Run n a b holds names z d.1 (x ∷ t) h.us h.vs) m.0 d.3) in
        let fr : RowFronts k.rest x = (formed, (rows_text t ++ h.rest, f ∙ append_assoc (line_of x) (10 ∷ rows_text t) h.rest ∙ sym (append_assoc (line_of x) (10 ∷ []) (rows_text t ++ h.rest)))) in
        end_clash k.us k.vs h.us h.vs xs ys k.rest (nth + length k.rows) x t s k.end go fr

    read_compared : (r s : Result (Unit {0}) RowsFault) (qs ds xs ys : List Numbers) (h : RowsRead n a b holds names text nth ps cs r qs ds) (k : RowsRead n a b holds names text nth ps cs s xs ys)
        → Compared h.rows k.rows h.rest k.rest → (r ≡ s) × (qs ≡ xs) × (ds ≡ ys)
    read_compared r s qs ds xs ys h k (alike e f) =
        let m = run_same ps cs h.us h.vs k.us k.vs k.rows (subst (λ z. Run n a b holds names ps cs z h.us h.vs) e h.run) k.run in
        let one = subst (λ (z : List RowLine). RowsEnd n a b holds names h.us h.vs h.rest (nth + length z) r qs ds) e h.end in
        let two = subst (λ (z : Bytes). RowsEnd n a b holds names h.us h.vs z (nth + length k.rows) r qs ds) f one in
        let three = subst (λ (z : List Numbers). RowsEnd n a b holds names z h.vs k.rest (nth + length k.rows) r qs ds) m.0 two in
        let four = subst (λ (z : List Numbers). RowsEnd n a b holds names k.us z k.rest (nth + length k.rows) r qs ds) m.1 three in
        end_same k.us k.vs k.rest (nth + length k.rows) r s qs ds xs ys four k.end
    read_compared r s qs ds xs ys h k (longer x t g e f) = absurd (no_more r s qs ds xs ys h k x t g e f)
    read_compared r s qs ds xs ys h k (shorter x t g e f) = absurd (no_more s r xs ys qs ds k h x t g e f)

    read_same : (r s : Result (Unit {0}) RowsFault) (qs ds xs ys : List Numbers) → RowsRead n a b holds names text nth ps cs r qs ds → RowsRead n a b holds names text nth ps cs s xs ys
        → (r ≡ s) × (qs ≡ xs) × (ds ≡ ys)
    read_same r s qs ds xs ys h k = read_compared r s qs ds xs ys h k
        (compare_rows h.rows k.rows h.rest k.rest (run_formed ps cs h.us h.vs h.rows h.run) (run_formed ps cs k.us k.vs k.rows k.run) (sym h.parts ∙ k.parts))

-- ---- the lines that are skipped

skips_same : (text x y : Bytes) (n m : ℕ) → Skips text n x → Skips text m y → (n ≡ m) × (x ≡ y)
skips_same text x y n m (skip_stop a e f) (skip_stop b g h) = (e ∙ sym g, f ∙ sym h)
skips_same text x y n m (skip_stop a e f) (skip_last b p g h) = absurd (a b)
skips_same text x y n m (skip_stop a e f) (skip_line l t k b p q g s) = absurd (a b)
skips_same text x y n m (skip_last a p e f) (skip_stop b g h) = absurd (b a)
skips_same text x y n m (skip_last a p e f) (skip_last b q g h) = (e ∙ sym g, f ∙ sym h)
skips_same text x y n m (skip_last a p e f) (skip_line l t k b q w g s) = absurd (feed_apart text l t p w)
skips_same text x y n m (skip_line l t k a p q e s) (skip_stop b g h) = absurd (b a)
skips_same text x y n m (skip_line l t k a p q e s) (skip_last b w g h) = absurd (feed_apart text l t w q)
skips_same text x y n m (skip_line l t k a p q e s) (skip_line l2 t2 k2 b p2 q2 g s2) =
    let d = skips_same t x y k k2 s (subst (λ z. Skips z k2 y) (sym (line_same l l2 t t2 p p2 (sym q ∙ q2)).1) s2) in
    let z = d.0 in
    (omega arith, d.1)

-- ---- the counts

abbrev counted : ℕ → ℕ → ℕ → Result (Unit {0}) PairFault
counted p c l = cond (eqb p 0) (Err (ItemCount p)) (cond (eqb c 0) (Err (ItemCount c)) (cond (eqb p c) (cond (eqb p l) (Ok tt) (Err (CountsDiffer p l))) (Err (CountsDiffer p c))))

counts_are : (p c l : ℕ) (r : Result (Unit {0}) PairFault) → Counts p c l r → r ≡ counted p c l
counts_are p c l r (paths_closed e) = grind (arith, nat_tests)
counts_are p c l r (cuts_closed a e) = grind (arith, nat_tests)
counts_are p c l r (tables_differ a e d) = grind (arith, nat_tests)
counts_are p c l r (labels_differ a e d) = grind (arith, nat_tests)
counts_are p c l r (counts_fit a e d) = grind (arith, nat_tests)

-- ---- the call

module _ (p c a b : ℕ) (holds : Numbers → Type 0) (text : Bytes) (places : List LabelPlace) (ps cs : List Numbers) where
  not_both : {P : Type 0} (f : PairFault) → Counts p c (length places) (Err f) → Counts p c (length places) (Ok tt) → P
  not_both f h k = let e = counts_are p c (length places) (Err f) h ∙ sym (counts_are p c (length places) (Ok tt) k) in absurd (cc)

  call_same : (r s : Result (Unit {0}) RowsFault) (qs ds xs ys : List Numbers) → RowsCall p c a b holds text places ps cs r qs ds → RowsCall p c a b holds text places ps cs s xs ys → (r ≡ s) × (qs ≡ xs) × (ds ≡ ys)
  call_same r s qs ds xs ys (not_fit f h) (not_fit g k) =
      let e = counts_are p c (length places) (Err f) h ∙ sym (counts_are p c (length places) (Err g) k) in
      let same : f ≡ g = cc in
      (ap (λ z. Err (unfit z)) same, refl, refl)
  call_same r s qs ds xs ys (not_fit f h) (too_long k l) = not_both f h k
  call_same r s qs ds xs ys (not_fit f h) (rows_read m rest t us vs k l sk rd) = not_both f h k
  call_same r s qs ds xs ys (too_long h l) (not_fit f k) = not_both f k h
  call_same r s qs ds xs ys (too_long h l) (too_long k m) = (refl, refl, refl)
  call_same r s qs ds xs ys (too_long h l) (rows_read m rest t us vs k o sk rd) = absurd (omega arith)
  call_same r s qs ds xs ys (rows_read m rest t us vs k o sk rd) (not_fit f h) = not_both f h k
  call_same r s qs ds xs ys (rows_read m rest t us vs k o sk rd) (too_long h l) = absurd (omega arith)
  call_same r s qs ds xs ys (rows_read m rest t us vs k o sk rd) (rows_read m2 rest2 t2 us2 vs2 k2 o2 sk2 rd2) =
      let d = skips_same text rest rest2 m m2 sk sk2 in
      let names = map (named text) places in
      let one = subst (λ (z : Bytes). RowsRead p a b holds names z (m + 1) ps cs r qs ds) d.1 rd in
      let two = subst (λ (z : ℕ). RowsRead p a b holds names rest2 (z + 1) ps cs r qs ds) d.0 one in
      read_same p a b holds names rest2 (m2 + 1) ps cs r s qs ds xs ys two rd2

pub one_reading : (holds : Numbers → Type 0) → OneReading holds
one_reading holds p c a b text places ps cs r s qs ds xs ys h k = call_same p c a b holds text places ps cs r s qs ds xs ys h k
