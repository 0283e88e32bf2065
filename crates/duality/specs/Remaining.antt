-- Rows that pass a test, whatever their order. Assumes nothing.
--
--   Stronger    what passes the first test passes the second
--   Alike       the rows that pass the test are the same in both lists, but for their order: of each test that is stronger, as many pass
--   any_row     the test that each row passes
--   AllPass     each of the rows passes the test
--   Tests       the answers to a value, true or false, are those of the test of what the value means
--   left_masks  what the masks mean that may be left
--   standing    the rows whose masks stand in the first c places, and those that have no mask
--   Counted     the planes are those of the first masks, so many, and all that may be left are among them
--   Fits        there are no more masks than a table can have rows, the counts do not lead beyond them, and where it is said how many the
--               planes count, they do
--   Sifted      the masks that do not pass the test have dropped out, and no other: those that may be left all pass (`only`), and are all
--               that pass (`left`); each earlier count leads to the same rows
--   Thinned     the same rows, of which some may have dropped out, and the same counts, which lead to the same rows
--   kept        the same rows, with their count kept for the split
--   GoneBack    the rows that were kept for the split
--   Unmoved     the same rows, in the same places, and the same counts
use Rattle.std.specs.Prelude.{◌≡◌, ℕ, ◌≤◌, Bool, true, List, length, ◌++◌, map, take, slice_index, slice_set, MatchOption}
use Rattle.std.specs.List.{All, count_by}
use Rattle.sets.specs.Sets.{Numbers}
use Rattle.tables.specs.Memory.{meant}
use Rattle.duality.specs.Shares.{Tallied}
use Rattle.duality.specs.declared.left.Left.{Left}

abbrev pub Stronger : (Numbers → Bool) → (Numbers → Bool) → Type 0
Stronger q test = (r : Numbers) → q r ≡ true → test r ≡ true

pub record Alike (test : Numbers → Bool) (xs ys : List Numbers) : Type 0 where
  pub alike : (q : Numbers → Bool) → Stronger q test → count_by q xs ≡ count_by q ys

abbrev pub any_row : Numbers → Bool
any_row r = true

abbrev pub AllPass : (Numbers → Bool) → List Numbers → Type 0
AllPass test rows = All (λ r. test r ≡ true) rows

abbrev pub Tests : {X : Type 0} → (X → Numbers) → (X → Bool → Type 0) → (Numbers → Bool) → Type 0
Tests {X} means R test = (x : X) (b : Bool) → R x b → b ≡ test (means x)

unfoldable pub left_masks : {M K : Type 0} → (M → Numbers) → Left M K → List Numbers
left_masks bits left = map bits (take left.count left.masks.now)

unfoldable pub standing : {M K : Type 0} → (M → Numbers) → (K → Numbers) → Left M K → ℕ → List Numbers
standing bits mem left c = map (meant mem) left.behind.now ++ map bits (take c left.masks.now)

pub record Counted {M K : Type 0} (bits : M → Numbers) (left : Left M K) (first : ℕ) : Type 0 where
  pub enough : left.count ≤ first
  pub inside : first ≤ length left.masks.now
  pub planes : Tallied bits (map bits (take first left.masks.now)) left.planes.now

pub record Fits {M K : Type 0} (bits : M → Numbers) (left : Left M K) : Type 0 where
  pub most : length left.masks.now ≤ 4096
  pub inside : left.count ≤ length left.masks.now
  pub long : length left.counts ≡ 256
  pub kept : All (λ c. c ≤ length left.masks.now) left.counts
  pub planes : length left.planes.now ≡ 13
  pub counted : MatchOption left.tallied (Unit {0}) (Counted bits left)

pub record Sifted {M K : Type 0} (bits : M → Numbers) (mem : K → Numbers) (test : Numbers → Bool) (before after : Left M K) : Type 0 where
  pub fits : Fits bits after
  pub counts : after.counts ≡ before.counts
  pub fewer : after.count ≤ before.count
  pub others : (c : ℕ) → before.count ≤ c → Alike any_row (standing bits mem before c) (standing bits mem after c)
  pub left : Alike test (standing bits mem before before.count) (standing bits mem after after.count)
  pub only : AllPass test (left_masks bits after)
  pub behind : after.behind ≡ before.behind

pub record Thinned {M K : Type 0} (bits : M → Numbers) (mem : K → Numbers) (before after : Left M K) : Type 0 where
  pub behind : after.behind ≡ before.behind
  pub counts : after.counts ≡ before.counts
  pub others : (c : ℕ) → before.count ≤ c → Alike any_row (standing bits mem before c) (standing bits mem after c)

abbrev pub kept : {M K : Type 0} → Left M K → ℕ → Left M K
kept left split = record { masks = left.masks; behind = left.behind; count = left.count; counts = slice_set left.counts split left.count; planes = left.planes; tallied = left.tallied }

pub record GoneBack {M K : Type 0} (before after : Left M K) (split : ℕ) : Type 0 where
  pub masks : after.masks.now ≡ before.masks.now
  pub behind : after.behind ≡ before.behind
  pub count : after.count ≡ slice_index before.counts split
  pub counts : after.counts ≡ before.counts

pub record Unmoved {M K : Type 0} (before after : Left M K) : Type 0 where
  pub masks : after.masks.now ≡ before.masks.now
  pub behind : after.behind ≡ before.behind
  pub count : after.count ≡ before.count
  pub counts : after.counts ≡ before.counts
