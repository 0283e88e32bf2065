-- What an audit may say, from what its parts found.
use Rattle.std.proofs.Common.{◌≡◌, ℕ, ◌<◌, ◌≤◌, T, List, length, get_or, Some, None, Option, MatchOption, sym, refl, ◌∙◌, subst, ⊎_elim, arith}
use Rattle.std.proofs.lemmas.Bool.{cases_lt}
use Rattle.sets.specs.Sets.{Numbers, nothing, Within, Below}
use Rattle.systems.specs.States.{up}
use Rattle.systems.specs.Systems.{Works, Fails, Doubled, EachRow}
use Rattle.systems.specs.declared.state.State.{State}
use Rattle.tables.specs.Refusals.{Reply, answered, refused}
use Rattle.duality.specs.Pairs.{Pairs, paths_closed, cuts_closed, counts_differ, pair_fits}
use Rattle.duality.specs.Searches.{AllCovered, MissedState}
use Rattle.duality.specs.Verdicts.{Audited}
use Rattle.duality.specs.declared.verdict.Verdict.{Verdict}
use Rattle.duality.specs.declared.verdict.Verdict.TheVariants.{Same, Miss, Both}

-- tables of one item count are refused only if it is 0
pub pair_zero : (p c n : ℕ) (r : Reply (Unit {0})) → p ≡ n → c ≡ n → Pairs p c r → (r ≡ answered tt → ⊥) → n ≡ 0
pair_zero p c n r a b (paths_closed e) h = sym a ∙ e
pair_zero p c n r a b (cuts_closed pos e) h = sym b ∙ e
pair_zero p c n r a b (counts_differ pos low ne) h = absurd (ne (a ∙ sym b))
pair_zero p c n r a b (pair_fits pos e) h = absurd (h refl)

pub not_answered : (number : ℕ) (values : List ℕ) → ◌≡◌ {A = Reply (Unit {0})} (refused number values) (answered tt) → ⊥
not_answered number values e = let z : ◌≡◌ {A = ℕ} 0 1 = cc in omega arith

-- every cut meets every path
abbrev AllMeet : List Numbers → List Numbers → Type 0
AllMeet ps cs = EachRow ps (λ p. Fails cs p → ⊥)

-- then no state is doubled
never_doubled : (ps cs : List Numbers) → AllMeet ps cs → (s : Numbers) → Works ps s → Fails cs s → ⊥
never_doubled ps cs meet s w f = meet w.row w.there (record { row = f.row; there = f.there; down = λ k m p. f.down k m (w.up k p) })

up_below : (n : ℕ) (s : State) → s.count ≡ n → Below n (up s)
up_below n s e k t = ⊎_elim (λ (lt : k < s.count). omega arith) (λ (ge : s.count ≤ k). absurd (subst T (s.down k ge) t)) (cases_lt k s.count)

-- the items of a path that shares none with some cut are a doubled state
pub doubled_alone : (n : ℕ) (ps cs : List Numbers) (i : ℕ) (s : State) → i < length ps → s.count ≡ n → Below n (get_or ps i nothing) → ((k : ℕ) → k < s.count → up s k ≡ get_or ps i nothing k) → Fails cs (get_or ps i nothing) → Doubled ps cs (up s)
doubled_alone n ps cs i s lt e low marks f =
    let into : Within (get_or ps i nothing) (up s) = λ k m. let l = low k m in subst T (sym (marks k (omega arith))) m in
    let out : Within (up s) (get_or ps i nothing) = λ k t. let l = up_below n s e k t in subst T (marks k (omega arith)) t in
    (record { row = i; there = lt; up = into }, record { row = f.row; there = f.there; down = λ k m t. f.down k m (out k t) })

module _ (n : ℕ) (ps cs : List Numbers) where
  pub audited_both : (s : State) → s.count ≡ n → Doubled ps cs (up s) → Audited n ps cs (Both s)
  audited_both s e d = record {
    says = (e, d);
    same = λ same. absurd (same.never_both (up s) (up_below n s e) d.0 d.1);
    both = λ t b h. tt;
  }

  audited_miss : (s : State) → MissedState n ps cs s → AllMeet ps cs → Audited n ps cs (Miss s)
  audited_miss s m meet = record {
    says = m;
    same = λ same. absurd (⊎_elim m.1.0 m.1.1 (same.covered (up s) (up_below n s m.0)));
    both = λ t b h. never_doubled ps cs meet t h.0 h.1;
  }

  audited_same : AllCovered n ps cs → AllMeet ps cs → Audited n ps cs Same
  audited_same all meet = record {
    says = record { covered = all; never_both = λ s b. never_doubled ps cs meet s };
    same = λ same. refl;
    both = λ t b h. never_doubled ps cs meet t h.0 h.1;
  }

  -- what a search found that leaves nothing behind it
  pub audited_found : (o : Option State) (v : Verdict) {B : Type 0} → B → MatchOption o (B → AllCovered n ps cs) (MissedState n ps cs) → AllMeet ps cs → (o ≡ None → v ≡ Same) → ((s : State) → o ≡ Some s → v ≡ Miss s) → Audited n ps cs v
  audited_found None v b h meet same miss = subst (Audited n ps cs) (sym (same refl)) (audited_same (h b) meet)
  audited_found (Some s) v b h meet same miss = subst (Audited n ps cs) (sym (miss s refl)) (audited_miss s h meet)

-- the rows as they are read, and as they are reckoned
pub audited_at : (n : ℕ) (ps qs cs ds : List Numbers) (v : Verdict) → ps ≡ qs → cs ≡ ds → Audited n ps cs v → Audited n qs ds v
audited_at n ps qs cs ds v p c h = subst (λ (x : List Numbers). Audited n x ds v) p (subst (λ (x : List Numbers). Audited n ps x v) c h)
