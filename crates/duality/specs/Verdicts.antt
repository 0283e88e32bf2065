-- What an audit says. Assumes nothing.
--
--   Says v      what the verdict v claims of the rows
--   Audited v   v is the right verdict: SAME exactly when every state of n items has a path row up or a cut row down, never
--               both; otherwise BOTH with a state of n items that has both, if there is one; else MISS with one that has neither
--   Shows v s   s is the state that the verdict shows; SAME shows the state of 0 items
use Rattle.std.specs.Prelude.{◌≡◌, ℕ, List, codes}
use Rattle.sets.specs.Sets.{Numbers, nothing, Below}
use Rattle.sets.specs.Sets as sets
use Rattle.systems.specs.States.{up}
use Rattle.systems.specs.Systems.{Missed, Doubled, SameSystem}
use Rattle.systems.specs.declared.state.State.{State}
use Rattle.duality.specs.declared.verdict.Verdict.{Verdict}
use Rattle.duality.specs.declared.verdict.Verdict.TheVariants.{Same, Miss, Both}

abbrev pub Says : ℕ → List Numbers → List Numbers → Verdict → Type 0
Says n ps cs Same = SameSystem n ps cs
Says n ps cs (Miss s) = (s.count ≡ n) × Missed ps cs (up s)
Says n ps cs (Both s) = (s.count ≡ n) × Doubled ps cs (up s)

-- the verdict is BOTH
abbrev pub SaysBoth : Verdict → Type 0
SaysBoth Same = ⊥
SaysBoth (Miss s) = ⊥
SaysBoth (Both s) = Unit {0}

pub record Audited (n : ℕ) (ps cs : List Numbers) (v : Verdict) : Type 0 where
  pub says : Says n ps cs v
  -- and it says SAME whenever that is so
  pub same : SameSystem n ps cs → v ≡ Same
  -- and BOTH whenever a state is doubled
  pub both : (s : Numbers) → Below n s → Doubled ps cs s → SaysBoth v

-- the word for a verdict
abbrev pub verdict_word : Verdict → List ℕ
verdict_word Same = codes "SAME"
verdict_word (Miss s) = codes "MISS"
verdict_word (Both s) = codes "BOTH"

abbrev pub Shows : Verdict → State → Type 0
Shows Same s = (s.count ≡ 0) × sets.Same (up s) nothing
Shows (Miss t) s = s ≡ t
Shows (Both t) s = s ≡ t
