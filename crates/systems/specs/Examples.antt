-- Worked examples of the definitions. Assumes nothing.
use Rattle.std.specs.Prelude.{ℕ, List, [], ◌∷◌, map}
use Rattle.sets.specs.Sets.{Numbers, Below, listed}
use Rattle.systems.specs.Systems.{SameSystem, Missed, Doubled, Structure, MinimalPath, MinimalCut, Lists}
use Rattle.systems.specs.Lines.{line_structure}
use Rattle.systems.specs.declared.line.Line.{Line}

-- rows, each by the numbers of its items
abbrev pub rows : List (List ℕ) → List Numbers
rows = map listed

-- five lines between four nodes: two ways from node 0 to node 3, and a bridge between them
abbrev pub bridge_lines : List Line
bridge_lines =
    record { from = 0; to = 1; item = 0 }
    ∷ record { from = 0; to = 2; item = 1 }
    ∷ record { from = 1; to = 3; item = 2 }
    ∷ record { from = 2; to = 3; item = 3 }
    ∷ record { from = 1; to = 2; item = 4 }
    ∷ []

abbrev pub bridge : Structure
bridge = line_structure 5 4 bridge_lines

abbrev pub bridge_paths : List Numbers
bridge_paths = rows ((0 ∷ 2 ∷ []) ∷ (1 ∷ 3 ∷ []) ∷ (0 ∷ 3 ∷ 4 ∷ []) ∷ (1 ∷ 2 ∷ 4 ∷ []) ∷ [])

abbrev pub bridge_cuts : List Numbers
bridge_cuts = rows ((0 ∷ 1 ∷ []) ∷ (2 ∷ 3 ∷ []) ∷ (0 ∷ 3 ∷ 4 ∷ []) ∷ (1 ∷ 2 ∷ 4 ∷ []) ∷ [])

abbrev pub pairs_of_three : List Numbers
pairs_of_three = rows ((0 ∷ 1 ∷ []) ∷ (0 ∷ 2 ∷ []) ∷ (1 ∷ 2 ∷ []) ∷ [])

pub record WorkedExamples : Type 0 where
  -- two items, both needed
  pub series : SameSystem 2 (rows ((0 ∷ 1 ∷ []) ∷ [])) (rows ((0 ∷ []) ∷ (1 ∷ []) ∷ []))
  -- the cut {1} left out: the state with 0 up and 1 down is missed, and no state is doubled
  pub one_cut_short : Missed (rows ((0 ∷ 1 ∷ []) ∷ [])) (rows ((0 ∷ []) ∷ [])) (listed (0 ∷ []))
  pub one_cut_short_never_doubled : (s : Numbers) → Below 2 s → Doubled (rows ((0 ∷ 1 ∷ []) ∷ [])) (rows ((0 ∷ []) ∷ [])) s → ⊥
  -- path {0}, cut {1}: the state with 0 up and 1 down is doubled
  pub contradiction : Doubled (rows ((0 ∷ []) ∷ [])) (rows ((1 ∷ []) ∷ [])) (listed (0 ∷ []))
  -- one item, no rows: either state is missed
  pub no_rows : (s : Numbers) → Below 1 s → Missed [] [] s
  -- only the path without items
  pub always_works : SameSystem 1 (rows ([] ∷ [])) []
  -- also the cut without items: either state is doubled
  pub always_both : (s : Numbers) → Below 1 s → Doubled (rows ([] ∷ [])) (rows ([] ∷ [])) s
  pub two_of_three : SameSystem 3 pairs_of_three pairs_of_three
  pub bridge_minimal_paths : Lists bridge_paths (MinimalPath bridge)
  pub bridge_minimal_cuts : Lists bridge_cuts (MinimalCut bridge)
  pub bridge_same : SameSystem 5 bridge_paths bridge_cuts
