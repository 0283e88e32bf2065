-- What a drawing of nodes and lines means. Assumes nothing.
--
--   Open      a line that names no node and no item out of range, and whose item is up
--   Walk b    a chain of open lines leads from node 0 to node b
--   Connects  a chain leads from node 0 to the last node, and the drawing keeps its limits
--   reached k the nodes to which a chain of at most k open lines leads from node 0
--   connects  the same as Connects, as a test
use Rattle.std.specs.Prelude.{◌≡◌, ℕ, zero, suc, ◌-◌, ◌<◌, ◌≤◌, Bool, false, ◌&&◌, ◌||◌, T, ◌⊎◌, List, [], ◌∷◌, length, Decides, ◌==◌, nat_le, nat_lt, slice_index_or}
use Rattle.std.proofs.Common.{inl, inr}
use Rattle.sets.specs.Sets.{Numbers, Within}
use Rattle.sets.specs.Truth.{and_T, T_and, or_T, T_or_left, T_or_right}
use Rattle.systems.specs.Systems.{Structure}
use Rattle.systems.specs.declared.line.Line.{Line}

abbrev pub no_line : Line
no_line = record { from = 0; to = 0; item = 0 }

pub record Open (items nodes : ℕ) (s : Numbers) (l : Line) : Type 0 where
  pub from_in : l.from < nodes
  pub to_in : l.to < nodes
  pub item_in : l.item < items
  pub up : T (s l.item)

-- the line joins the two nodes, either way
abbrev pub Joins : Line → ℕ → ℕ → Type 0
Joins l a b = ((l.from ≡ a) × (l.to ≡ b)) ⊎ ((l.from ≡ b) × (l.to ≡ a))

pub data Walk (items nodes : ℕ) (lines : List Line) (s : Numbers) : ℕ → Type 0 where
  start : Walk items nodes lines s 0
  along : {a b : ℕ} (i : ℕ) → i < length lines → Open items nodes s (slice_index_or lines i no_line) → Joins (slice_index_or lines i no_line) a b → Walk items nodes lines s a → Walk items nodes lines s b

pub record Connects (items nodes : ℕ) (lines : List Line) (s : Numbers) : Type 0 where
  pub some : 1 ≤ nodes
  pub few : nodes ≤ 256
  pub short : length lines ≤ 1024
  pub walk : Walk items nodes lines s (nodes - 1)

abbrev pub is_open : ℕ → ℕ → Numbers → Line → Bool
is_open items nodes s l = nat_lt l.from nodes && (nat_lt l.to nodes && (nat_lt l.item items && s l.item))

-- the line leads from one of the nodes m to b
abbrev pub leads : Line → Numbers → Numbers
leads l m b = (l.to == b && m l.from) || (l.from == b && m l.to)

-- some open line leads from one of the nodes m to b
abbrev pub crossed : ℕ → ℕ → Numbers → List Line → Numbers → Numbers
crossed items nodes s [] m b = false
crossed items nodes s (l ∷ ls) m b = (is_open items nodes s l && leads l m b) || crossed items nodes s ls m b

unfoldable pub reached : ℕ → ℕ → List Line → Numbers → ℕ → Numbers
reached items nodes lines s zero b = b == 0
reached items nodes lines s (suc k) b = reached items nodes lines s k b || crossed items nodes s lines (reached items nodes lines s k) b

abbrev pub connects : ℕ → ℕ → List Line → Numbers → Bool
connects items nodes lines s = nat_le 1 nodes && (nat_le nodes 256 && (nat_le (length lines) 1024 && reached items nodes lines s nodes (nodes - 1)))

abbrev pub ChainsAreWalks : Type 0
ChainsAreWalks = (items nodes : ℕ) (lines : List Line) (s : Numbers) → Decides (connects items nodes lines s) (Connects items nodes lines s)

-- more goes with more: what is open stays open, what is reached stays reached
both_more : (a b c d : Bool) → (T a → T c) → (T b → T d) → T (a && b) → T (c && d)
both_more a b c d f g t = let p = and_T a b t in T_and c d (f p.0) (g p.1)

either_more : (a b c d : Bool) → (T a → T c) → (T b → T d) → T (a || b) → T (c || d)
either_more a b c d f g t = elim (or_T a b t) [ inl x ↦ T_or_left c d (f x) | inr y ↦ T_or_right c d (g y) ]

module _ (items nodes : ℕ) (s t : Numbers) (h : Within s t) where
  open_more : (l : Line) → T (is_open items nodes s l) → T (is_open items nodes t l)
  open_more l =
      both_more (nat_lt l.from nodes) (nat_lt l.to nodes && (nat_lt l.item items && s l.item)) (nat_lt l.from nodes) (nat_lt l.to nodes && (nat_lt l.item items && t l.item)) (λ x. x)
      (both_more (nat_lt l.to nodes) (nat_lt l.item items && s l.item) (nat_lt l.to nodes) (nat_lt l.item items && t l.item) (λ x. x)
      (both_more (nat_lt l.item items) (s l.item) (nat_lt l.item items) (t l.item) (λ x. x) (h l.item)))

  leads_more : (l : Line) (m o : Numbers) → Within m o → Within (leads l m) (leads l o)
  leads_more l m o g b =
      either_more (l.to == b && m l.from) (l.from == b && m l.to) (l.to == b && o l.from) (l.from == b && o l.to)
      (both_more (l.to == b) (m l.from) (l.to == b) (o l.from) (λ x. x) (g l.from))
      (both_more (l.from == b) (m l.to) (l.from == b) (o l.to) (λ x. x) (g l.to))

  crossed_more : (ls : List Line) (m o : Numbers) → Within m o → Within (crossed items nodes s ls m) (crossed items nodes t ls o)
  crossed_more [] m o g b = λ x. x
  crossed_more (l ∷ ls) m o g b =
      either_more (is_open items nodes s l && leads l m b) (crossed items nodes s ls m b) (is_open items nodes t l && leads l o b) (crossed items nodes t ls o b)
      (both_more (is_open items nodes s l) (leads l m b) (is_open items nodes t l) (leads l o b) (open_more l) (leads_more l m o g b))
      (crossed_more ls m o g b)

  pub reached_more : (lines : List Line) (k : ℕ) → Within (reached items nodes lines s k) (reached items nodes lines t k)
  unfolding reached
  reached_more lines zero b = λ x. x
  reached_more lines (suc k) b =
      either_more (reached items nodes lines s k b) (crossed items nodes s lines (reached items nodes lines s k) b) (reached items nodes lines t k b) (crossed items nodes t lines (reached items nodes lines t k) b)
      (reached_more lines k b) (crossed_more lines (reached items nodes lines s k) (reached items nodes lines t k) (reached_more lines k) b)

pub connects_more : (items nodes : ℕ) (lines : List Line) (s t : Numbers) → Within s t → T (connects items nodes lines s) → T (connects items nodes lines t)
connects_more items nodes lines s t h =
    both_more (nat_le 1 nodes) (nat_le nodes 256 && (nat_le (length lines) 1024 && reached items nodes lines s nodes (nodes - 1))) (nat_le 1 nodes) (nat_le nodes 256 && (nat_le (length lines) 1024 && reached items nodes lines t nodes (nodes - 1))) (λ x. x)
    (both_more (nat_le nodes 256) (nat_le (length lines) 1024 && reached items nodes lines s nodes (nodes - 1)) (nat_le nodes 256) (nat_le (length lines) 1024 && reached items nodes lines t nodes (nodes - 1)) (λ x. x)
    (both_more (nat_le (length lines) 1024) (reached items nodes lines s nodes (nodes - 1)) (nat_le (length lines) 1024) (reached items nodes lines t nodes (nodes - 1)) (λ x. x)
    (reached_more items nodes s t h lines nodes (nodes - 1))))

-- the structure function of a line drawing
abbrev pub line_structure : ℕ → ℕ → List Line → Structure
line_structure items nodes lines = record {
  items = items;
  works = connects items nodes lines;
  monotone = λ s t _ _ h. connects_more items nodes lines s t h;
}
