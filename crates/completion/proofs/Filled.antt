-- The turns of the loop that adds rows until no state is missed.
use Rattle.std.proofs.Common.{◌≡◌, ℕ, ◌+◌, ◌<◌, ◌≤◌, List, [], length, Ok, Err, Result, sym, subst, arith}
use Rattle.sets.specs.Sets.{Numbers}
use Rattle.sets.specs.declared.kind.SetKind.{Ghosts}
use Rattle.systems.specs.Systems.{Structure}
use Rattle.systems.specs.Duals.{dual}
use Rattle.systems.specs.declared.state.State.{State}
use Rattle.tables.specs.Tables.{Holds}
use Rattle.tables.specs.declared.table.Table.{Table}
use Rattle.duality.specs.Halves.{opened, Settled}
use Rattle.duality.specs.Searches.{Stands, Behind, AllCovered, MissedState}
use Rattle.duality.specs.declared.search.Search.{Search}
use Rattle.duality.specs.declared.splits.Frame.{Frame}
use Rattle.completion.specs.Minimals.{Minimals}
use Rattle.completion.specs.Fills.{BothTightened, Learns, Fills}
use Rattle.completion.specs.declared.fault.CompletionFault.{CompletionFault}
use Rattle.completion.proofs.Learning.{tightened_same, both_trans, settled_finer}

-- the rows that the tables P and C have, with the search at s, after so many turns from the rows ps and cs
pub record Reached {X : Type 0} {G : Ghosts X} (mem : X → Numbers) (holds : Numbers → Type 0) (φ : Structure) (n a b : ℕ) (ps cs : List Numbers) (P C : Table X G) (s : Search) (turn : ℕ) : Type 0 where
  pub qs : List Numbers
  pub ds : List Numbers
  pub paths : Holds mem P n qs
  pub cuts : Holds mem C n ds
  pub tight : BothTightened n a b holds φ ps cs qs ds
  pub stands : Stands n s
  pub behind : Behind n qs ds s
  pub counted : length qs + length ds ≡ length ps + length cs + turn

-- what `learn` and `fill` say, of tables with minimal rows
abbrev pub Filled : {X : Type 0} {G : Ghosts X} → (X → Numbers) → (Numbers → Type 0) → Structure → Table X G → Table X G → Table X G → Table X G → Result (Unit {0}) CompletionFault → Type 0
Filled mem holds φ P C P' C' r = (n : ℕ) (ps cs : List Numbers) → 1 ≤ n → Holds mem P n ps → Holds mem C n cs → φ.items ≡ n
    → Minimals n P.capacity holds φ ps → Minimals n C.capacity holds (dual φ) cs
    → (qs ds : List Numbers) × Holds mem P' n qs × Holds mem C' n ds × Fills n P.capacity C.capacity holds φ ps cs r qs ds

abbrev Learnt : {X : Type 0} {G : Ghosts X} → (X → Numbers) → (Numbers → Type 0) → Structure → State → Table X G → Table X G → Table X G → Table X G → Result (Unit {0}) CompletionFault → Type 0
Learnt mem holds φ missed P C P' C' r = (n : ℕ) (ps cs : List Numbers) → 1 ≤ n → Holds mem P n ps → Holds mem C n cs → φ.items ≡ n → MissedState n ps cs missed
    → Minimals n P.capacity holds φ ps → Minimals n C.capacity holds (dual φ) cs
    → (qs ds : List Numbers) × Holds mem P' n qs × Holds mem C' n ds × Learns n P.capacity C.capacity holds φ ps cs r qs ds

abbrev pub Filling : {X : Type 0} {G : Ghosts X} → (X → Numbers) → (Numbers → Type 0) → Structure → Table X G → Table X G → Table X G → Table X G → Search → ℕ → Type 0
Filling mem holds φ P₀ C₀ P C s turn = (n : ℕ) (ps cs : List Numbers) → 1 ≤ n → Holds mem P₀ n ps → Holds mem C₀ n cs → φ.items ≡ n
    → Minimals n P₀.capacity holds φ ps → Minimals n C₀.capacity holds (dual φ) cs
    → Reached mem holds φ n P₀.capacity C₀.capacity ps cs P C s turn

-- a search from the start
pub filling_none : {X : Type 0} {G : Ghosts X} {mem : X → Numbers} {holds : Numbers → Type 0} {φ : Structure} {P C : Table X G} {s : Search} (count : ℕ)
    → count ≡ P.items → (count ≤ 256 → Stands count s) → opened s.splits ≡ [] → Filling mem holds φ P C P C s 0
filling_none {P = P} {s = s} count is stands fresh n ps cs pos hp hc items pm cm = record {
  qs = ps;
  ds = cs;
  paths = hp;
  cuts = hc;
  tight = record { paths = tightened_same pm; cuts = tightened_same cm };
  stands = let e : count ≡ n = omega (arith, hp.items) in subst (λ (k : ℕ). Stands k s) e (stands (omega (arith, P.small)));
  behind = subst (λ (fs : List Frame). Settled n ps cs fs) (sym fresh) tt;
  counted = omega arith;
}

module _ {X : Type 0} {G : Ghosts X} {mem : X → Numbers} {holds : Numbers → Type 0} {φ : Structure} {P₀ C₀ P C : Table X G} {s : Search} {turn : ℕ} (inv : Filling mem holds φ P₀ C₀ P C s turn) where
  -- there are no more rows than places, so no more turns
  pub filled_never : P₀.capacity + C₀.capacity < turn → (r : Result (Unit {0}) CompletionFault) → Filled mem holds φ P₀ C₀ P C r
  filled_never lt r n ps cs pos hp hc items pm cm =
      let i = inv n ps cs pos hp hc items pm cm in
      absurd (omega (arith, i.counted, i.tight.paths.minimals.sound.few, i.tight.cuts.minimals.sound.few))

  -- the rows of the tables are read as us and vs
  module _ {us vs : List Numbers} (read_paths : (n : ℕ) (ps : List Numbers) → Holds mem P n ps → us ≡ ps) (read_cuts : (n : ℕ) (cs : List Numbers) → Holds mem C n cs → vs ≡ cs) where
    module _ (R : ℕ → List Numbers → List Numbers → Type 0) (n : ℕ) (qs ds : List Numbers) (paths : Holds mem P n qs) (cuts : Holds mem C n ds) where
      from_read : R n us vs → R n qs ds
      from_read h = subst (λ (d : List Numbers). R n qs d) (read_cuts n ds cuts) (subst (λ (q : List Numbers). R n q vs) (read_paths n qs paths) h)

      to_read : R n qs ds → R n us vs
      to_read h = subst (λ (d : List Numbers). R n us d) (sym (read_cuts n ds cuts)) (subst (λ (q : List Numbers). R n q ds) (sym (read_paths n qs paths)) h)

    pub filled_all : ((n : ℕ) → Stands n s → Behind n us vs s → AllCovered n us vs) → Filled mem holds φ P₀ C₀ P C (Ok tt)
    filled_all found n ps cs pos hp hc items pm cm =
        let i = inv n ps cs pos hp hc items pm cm in
        let behind = to_read (λ m q d. Behind m q d s) n i.qs i.ds i.paths i.cuts i.behind in
        (i.qs, i.ds, i.paths, i.cuts, (i.tight, from_read AllCovered n i.qs i.ds i.paths i.cuts (found n i.stands behind)))

    -- a missed state is learnt from
    module _ (kept_paths : P.capacity ≡ P₀.capacity) (kept_cuts : C.capacity ≡ C₀.capacity) (missed : State) (found : (n : ℕ) → Stands n s → MissedState n us vs missed) (P' C' : Table X G) where
      record Turn (r : Result (Unit {0}) CompletionFault) (n : ℕ) (ps cs : List Numbers) : Type 0 where
        pub before : Reached mem holds φ n P₀.capacity C₀.capacity ps cs P C s turn
        pub qs : List Numbers
        pub ds : List Numbers
        pub paths : Holds mem P' n qs
        pub cuts : Holds mem C' n ds
        pub learns : Learns n P₀.capacity C₀.capacity holds φ before.qs before.ds r qs ds

      turn_of : (r : Result (Unit {0}) CompletionFault) → Learnt mem holds φ missed P C P' C' r → (n : ℕ) (ps cs : List Numbers) → 1 ≤ n → Holds mem P₀ n ps → Holds mem C₀ n cs → φ.items ≡ n
          → Minimals n P₀.capacity holds φ ps → Minimals n C₀.capacity holds (dual φ) cs → Turn r n ps cs
      turn_of r learnt n ps cs pos hp hc items pm cm =
          let i = inv n ps cs pos hp hc items pm cm in
          let m = from_read (λ m q d. MissedState m q d missed) n i.qs i.ds i.paths i.cuts (found n i.stands) in
          let l = learnt n i.qs i.ds pos i.paths i.cuts items m
          (subst (λ (k : ℕ). Minimals n k holds φ i.qs) (sym kept_paths) i.tight.paths.minimals)
          (subst (λ (k : ℕ). Minimals n k holds (dual φ) i.ds) (sym kept_cuts) i.tight.cuts.minimals) in
          record {
            before = i;
            qs = l.0;
            ds = l.1;
            paths = l.2;
            cuts = l.3;
            learns = subst (λ (k : ℕ). Learns n P₀.capacity k holds φ i.qs i.ds r l.0 l.1) kept_cuts
                (subst (λ (k : ℕ). Learns n k C.capacity holds φ i.qs i.ds r l.0 l.1) kept_paths l.4);
          }

      pub filling_more : {s' : Search} → ((n : ℕ) → Stands n s → Stands n s') → ((n : ℕ) → Stands n s → Behind n us vs s → Behind n us vs s')
          → Learnt mem holds φ missed P C P' C' (Ok tt) → Filling mem holds φ P₀ C₀ P' C' s' (turn + 1)
      filling_more {s'} stands behind learnt n ps cs pos hp hc items pm cm =
          let t = turn_of (Ok tt) learnt n ps cs pos hp hc items pm cm in
          let i = t.before in
          let at = to_read (λ m q d. Behind m q d s) n i.qs i.ds i.paths i.cuts i.behind in
          let after = from_read (λ m q d. Behind m q d s') n i.qs i.ds i.paths i.cuts (behind n i.stands at) in
          let both = t.learns.0 in
          record {
            qs = t.qs;
            ds = t.ds;
            paths = t.paths;
            cuts = t.cuts;
            tight = both_trans i.tight both;
            stands = stands n i.stands;
            behind = settled_finer n i.qs t.qs i.ds t.ds both.paths.finer both.cuts.finer (opened s'.splits) after;
            counted = omega (arith, i.counted, t.learns.1);
          }

      pub filled_blocked : (f : CompletionFault) → Learnt mem holds φ missed P C P' C' (Err f) → Filled mem holds φ P₀ C₀ P' C' (Err f)
      filled_blocked f learnt n ps cs pos hp hc items pm cm =
          let t = turn_of (Err f) learnt n ps cs pos hp hc items pm cm in
          (t.qs, t.ds, t.paths, t.cuts, (both_trans t.before.tight t.learns.0, t.learns.1))
