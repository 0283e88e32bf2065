-- A minimal row that is put into a table of minimal rows, none of them within it.
use Rattle.std.proofs.Common.{◌≡◌, ℕ, ◌+◌, ◌≤◌, true, T, List, [], ◌∷◌, ◌++◌, length, get_or, sym, refl, ap, ◌∙◌, subst, arith}
use Rattle.std.proofs.lemmas.List.{length_push}
use Rattle.sets.specs.Sets.{Numbers, nothing, Within, Below}
use Rattle.systems.specs.Systems.{Structure, MinimalPath, Works, Among, EachRow}
use Rattle.systems.proofs.Minimal.{minimal_path_back}
use Rattle.tables.specs.Refusals.{answered, refused}
use Rattle.tables.specs.Rows.{ContainsNone, stays, after_put, Sound}
use Rattle.tables.specs.Pasts.{Accepted}
use Rattle.tables.proofs.Sifting.{stays_yes, kept_all}
use Rattle.tables.proofs.Histories.{sound_put}
use Rattle.completion.specs.Offers.{Offers, offer_closed, offer_unheld, offer_contains, offer_full, offer_done}
use Rattle.completion.specs.Minimals.{Minimals, Tightened}
use Rattle.completion.specs.Fills.{TableFull, Blocks, why_blocked}
use Rattle.completion.proofs.RowLists.{each_push}
use Rattle.completion.proofs.Minimality.{works_wider, finer_push}
use Rattle.completion.proofs.Listing.{sound_once}
use Rattle.completion.proofs.Pigeons.{no_room}

-- p is minimal and within s, no row is, and all rows are minimal
module _ (n capacity : ℕ) (holds : Numbers → Type 0) (ψ : Structure) (rows : List Numbers) (p s : Numbers)
    (min : MinimalPath ψ p) (in_s : Within p s) (new : Works rows s → ⊥) (all : Minimals n capacity holds ψ rows) where
  -- no row lies within p
  fresh : Works rows p → ⊥
  fresh w = new (works_wider rows p s in_s w)

  full : ContainsNone rows p → length rows ≡ capacity → TableFull capacity ψ rows
  full none e = record {
    full = e;
    more = no_room capacity (MinimalPath ψ) rows p all.minimal (sound_once n capacity holds rows all.sound) e min
        (λ (a : Among rows p). none a.row a.there (λ k t. subst T (a.same k) t));
  }

  pub blocked : 1 ≤ n → (number : ℕ) (values : List ℕ) (after : List Numbers) → Offers n capacity holds rows p (refused number values) after
      → (after ≡ rows) × Blocks capacity holds ψ rows (why_blocked number)
  blocked pos number values after (offer_closed e) = absurd (omega arith)
  blocked pos number values after (offer_unheld place out) = (refl, λ held. out (held p min))
  blocked pos number values after (offer_contains i h) = absurd (fresh (record { row = i; there = h.there; up = h.contained }))
  blocked pos number values after (offer_full none e whole) = (refl, full none e)

  -- no row contains p: it would lie within p
  stays_each : Below n p → EachRow rows (λ r. stays n p r ≡ true)
  stays_each low i h =
      stays_yes n p (get_or rows i nothing) low
      (λ w. fresh (record { row = i; there = h; up = minimal_path_back ψ p (get_or rows i nothing) min (all.minimal i h) w }))

  put_is : Accepted n capacity holds rows p → after_put n rows p ≡ rows ++ p ∷ []
  put_is a = ap (λ l. l ++ p ∷ []) (kept_all (stays n p) rows (stays_each a.items))

  done : Accepted n capacity holds rows p → Tightened n capacity holds ψ rows (rows ++ p ∷ [])
  done a = record {
    minimals = record {
      sound = subst (Sound n capacity holds) (put_is a) (sound_put n capacity holds rows p a all.sound);
      minimal = each_push (MinimalPath ψ) rows p all.minimal min;
    };
    finer = finer_push rows p;
  }

  pub added : (k : ℕ) (after : List Numbers) → Offers n capacity holds rows p (answered k) after → Tightened n capacity holds ψ rows after × (length after ≡ length rows + 1)
  added k after (offer_done a) =
      (subst (Tightened n capacity holds ψ rows) (sym (put_is a)) (done a), ap length (put_is a) ∙ length_push rows p)
