-- The loop in which rows give way to minimal ones.
use Rattle.std.proofs.Common.{◌≡◌, ℕ, ◌+◌, ◌-◌, ◌<◌, ◌≤◌, true, false, not, List, [], ◌∷◌, ◌++◌, length, get_or, filter, sym, refl, ap, ◌∙◌, subst, ⊎_elim, arith}
use Rattle.std.specs.List.{remove}
use Rattle.std.proofs.lemmas.List.{append-nil, append_assoc, length-append, get_or-append-add, length_push, nil_from_length}
use Rattle.std.proofs.lemmas.List.Elements.{filter-append}
use Rattle.std.proofs.lemmas.Bool.{cases_Bool, cases_eq, cond-false}
use Rattle.sets.specs.Sets.{Numbers, nothing, Within, Below, within_below}
use Rattle.sets.proofs.Deciding.{decides_within}
use Rattle.systems.specs.Systems.{Structure, ProperSubset, MinimalPath, Works, EachRow}
use Rattle.systems.proofs.Minimal.{minimal_path_back}
use Rattle.tables.specs.Rows.{ContainsNone, Sound, stays, staying, after_put}
use Rattle.tables.specs.Pasts.{Finer}
use Rattle.tables.proofs.Sifting.{stays_yes, stays_no, kept_fewer, kept_all}
use Rattle.tables.proofs.Histories.{sound_put, sound_struck}
use Rattle.completion.specs.Minimals.{Tightened}
use Rattle.completion.specs.Offers.{Replaced, replace_put, replace_struck}
use Rattle.completion.specs.Completions.{PathBorne}
use Rattle.completion.proofs.Minimality.{finer_refl, finer_trans}
use Rattle.completion.proofs.RowLists.{each_left, each_right, each_append, each_push, each_kept, each_removed, works_front, works_last, works_kept, works_removed, removed_at}

-- ---- each row has a row within it

put_finer : (n : ℕ) (rows : List Numbers) (p : Numbers) → Below n p → Finer rows (after_put n rows p)
put_finer n rows p low i h =
    let r = get_or rows i nothing in
    ⊎_elim
    (λ (e : within_below n p r ≡ true). works_last (staying n rows p) p r ((decides_within n p r low).0 e))
    (λ (e : within_below n p r ≡ false). works_front (staying n rows p) (p ∷ []) r (works_kept (stays n p) rows r i h (ap not e) (λ k t. t)))
    (cases_Bool (within_below n p r))

-- another row lies within the set p, which the struck row contains
struck_finer : (rows : List Numbers) (at : ℕ) (p : Numbers) → ProperSubset p (get_or rows at nothing) → Works rows p → Finer rows (remove rows at)
struck_finer rows at p less w j h =
    ⊎_elim
    (λ (e : j ≡ at). works_removed rows at w.row (get_or rows j nothing) w.there
    (λ q. less.1 (subst (λ i. Within (get_or rows i nothing) p) q w.up))
    (subst (λ i. Within (get_or rows w.row nothing) (get_or rows i nothing)) (sym e) (λ k t. less.0 k (w.up k t))))
    (λ (ne : j ≡ at → ⊥). works_removed rows at j (get_or rows j nothing) h ne (λ k t. t))
    (cases_eq j at)

-- ---- the loop

-- the rows before `at` and from `end` on are minimal
pub record Tightening (n capacity : ℕ) (holds : Numbers → Type 0) (ψ : Structure) (ps rs : List Numbers) (at end : ℕ) : Type 0 where
  pub front : List Numbers
  pub middle : List Numbers
  pub back : List Numbers
  pub is : rs ≡ front ++ (middle ++ back)
  pub at_is : length front ≡ at
  pub end_is : length front + length middle ≡ end
  pub front_least : EachRow front (MinimalPath ψ)
  pub back_least : EachRow back (MinimalPath ψ)
  pub sound : Sound n capacity holds rs
  pub borne : EachRow rs (PathBorne ψ)
  pub finer : Finer ps rs

module _ (n capacity : ℕ) (holds : Numbers → Type 0) (ψ : Structure) (ps : List Numbers) where
  pub tight_none : Sound n capacity holds ps → EachRow ps (PathBorne ψ) → Tightening n capacity holds ψ ps ps 0 (length ps)
  tight_none sound borne = record {
    front = [];
    middle = ps;
    back = [];
    is = sym (append-nil ps);
    at_is = refl;
    end_is = omega arith;
    front_least = λ i h. absurd (omega arith);
    back_least = λ i h. absurd (omega arith);
    sound = sound;
    borne = borne;
    finer = finer_refl ps;
  }

  module _ (rs : List Numbers) (at end : ℕ) (t : Tightening n capacity holds ψ ps rs at end) where
    rows_are : length rs ≡ length t.front + (length t.middle + length t.back)
    rows_are = ap length t.is ∙ length-append t.front (t.middle ++ t.back) ∙ ap (λ k. length t.front + k) (length-append t.middle t.back)

    pub tight_all : end ≤ at → Tightened n capacity holds ψ ps rs
    tight_all le =
        let is : rs ≡ t.front ++ t.back = t.is ∙ ap (λ m. t.front ++ (m ++ t.back)) (nil_from_length t.middle (omega (arith, t.at_is, t.end_is))) in
        record {
          minimals = record {
            sound = t.sound;
            minimal = subst (λ l. EachRow l (MinimalPath ψ)) (sym is) (each_append (MinimalPath ψ) t.front t.back t.front_least t.back_least);
          };
          finer = t.finer;
        }

    -- the row at `at`, and the others
    pub record Opening : Type 0 where
      pub head : Numbers
      pub tail : List Numbers
      pub middle_is : t.middle ≡ head ∷ tail
      pub is : rs ≡ t.front ++ (head ∷ (tail ++ t.back))
      pub there : at < length rs

    pub opening : at < end → Opening
    opening lt = go t.middle refl where
      go : (m : List Numbers) → t.middle ≡ m → Opening
      go [] e = absurd (omega (arith, t.at_is, t.end_is, ap length e))
      go (x ∷ m) e = record {
        head = x;
        tail = m;
        middle_is = e;
        is = t.is ∙ ap (λ l. t.front ++ (l ++ t.back)) e;
        there = omega (arith, rows_are, t.at_is, ap length e);
      }

    module _ (o : Opening) where
      head_is : get_or rs at nothing ≡ o.head
      head_is =
          let at_add : length t.front + 0 ≡ at = omega (arith, t.at_is) in
          ap (λ l. get_or l at nothing) o.is ∙ ap (λ k. get_or (t.front ++ (o.head ∷ (o.tail ++ t.back))) k nothing) (sym at_add)
          ∙ get_or-append-add t.front (o.head ∷ (o.tail ++ t.back)) 0 nothing

      -- it is minimal
      pub tight_next : MinimalPath ψ (get_or rs at nothing) → Tightening n capacity holds ψ ps rs (at + 1) end
      tight_next m = record {
        front = t.front ++ o.head ∷ [];
        middle = o.tail;
        back = t.back;
        is = o.is ∙ sym (append_assoc t.front (o.head ∷ []) (o.tail ++ t.back));
        at_is = length_push t.front o.head ∙ omega (arith, t.at_is);
        end_is = omega (arith, length_push t.front o.head, t.end_is, ap length o.middle_is);
        front_least = each_push (MinimalPath ψ) t.front o.head t.front_least (subst (MinimalPath ψ) head_is m);
        back_least = t.back_least;
        sound = t.sound;
        borne = t.borne;
        finer = t.finer;
      }

      -- a minimal set takes its place
      module _ (p : Numbers) (least : MinimalPath ψ p) (less : ProperSubset p (get_or rs at nothing)) where
        -- a minimal row that does not lie within it stays
        stay_all : Below n p → (xs : List Numbers) → EachRow xs (MinimalPath ψ) → EachRow xs (λ r. Within r p → ⊥) → filter (stays n p) xs ≡ xs
        stay_all low xs m out =
            kept_all (stays n p) xs (λ i h. stays_yes n p (get_or xs i nothing) low (λ w. out i h (minimal_path_back ψ p (get_or xs i nothing) least (m i h) w)))

        put_is : Below n p → ContainsNone rs p → staying n rs p ≡ t.front ++ (filter (stays n p) o.tail ++ t.back)
        put_is low new =
            let out : EachRow (t.front ++ (o.head ∷ (o.tail ++ t.back))) (λ r. Within r p → ⊥) = subst (λ l. EachRow l (λ r. Within r p → ⊥)) o.is new in
            let rest = each_right (λ r. Within r p → ⊥) t.front (o.head ∷ (o.tail ++ t.back)) out in
            let out_back = each_right (λ r. Within r p → ⊥) (o.head ∷ o.tail) t.back rest in
            let gone : stays n p o.head ≡ false = stays_no n p o.head low (subst (Within p) head_is less.0) in
            ap (filter (stays n p)) o.is
            ∙ filter-append (stays n p) t.front (o.head ∷ (o.tail ++ t.back))
            ∙ ap (λ l. l ++ filter (stays n p) (o.head ∷ (o.tail ++ t.back)))
            (stay_all low t.front t.front_least (each_left (λ r. Within r p → ⊥) t.front (o.head ∷ (o.tail ++ t.back)) out))
            ∙ ap (λ l. t.front ++ l)
            (cond-false (stays n p o.head) (o.head ∷ filter (stays n p) (o.tail ++ t.back)) (filter (stays n p) (o.tail ++ t.back)) gone
            ∙ filter-append (stays n p) o.tail t.back
            ∙ ap (λ l. filter (stays n p) o.tail ++ l) (stay_all low t.back t.back_least out_back))

        pub tight_replaced : (gone : ℕ) (qs : List Numbers) → Replaced n capacity holds rs at p gone qs → Tightening n capacity holds ψ ps qs at (end - gone)
        tight_replaced gone qs (replace_put ok) =
            let left = filter (stays n p) o.tail in
            let is = put_is ok.items ok.new in
            let whole = length-append t.front (left ++ t.back) in
            let rest = length-append left t.back in
            record {
              front = t.front;
              middle = left;
              back = t.back ++ p ∷ [];
              is = ap (λ l. l ++ p ∷ []) is ∙ append_assoc t.front (left ++ t.back) (p ∷ []) ∙ ap (λ l. t.front ++ l) (append_assoc left t.back (p ∷ []));
              at_is = t.at_is;
              end_is = omega (arith, t.end_is, rows_are, ap length is, whole, rest, ap length o.middle_is, kept_fewer (stays n p) o.tail);
              front_least = t.front_least;
              back_least = each_push (MinimalPath ψ) t.back p t.back_least least;
              sound = sound_put n capacity holds rs p ok t.sound;
              borne = each_push (PathBorne ψ) (staying n rs p) p (each_kept (PathBorne ψ) (stays n p) rs t.borne) least.works;
              finer = finer_trans ps rs (after_put n rs p) t.finer (put_finer n rs p ok.items);
            }
        tight_replaced gone qs (replace_struck w) = record {
          front = t.front;
          middle = o.tail;
          back = t.back;
          is = ap (λ l. remove l at) o.is ∙ ap (λ k. remove (t.front ++ (o.head ∷ (o.tail ++ t.back))) k) (sym t.at_is) ∙ removed_at t.front o.head (o.tail ++ t.back);
          at_is = t.at_is;
          end_is = omega (arith, t.end_is, ap length o.middle_is);
          front_least = t.front_least;
          back_least = t.back_least;
          sound = sound_struck n capacity holds rs at o.there t.sound;
          borne = each_removed (PathBorne ψ) rs at t.borne;
          finer = finer_trans ps rs (remove rs at) t.finer (struck_finer rs at p less w);
        }
