use Rattle.std.proofs.Common.{◌≡◌, ℕ, ◌<◌, true, List, ◌+◌, ◌++◌, map, length, refl, sym, ap, ◌∙◌, subst, arith}
use Rattle.std.proofs.lemmas.Bool.{true≢false}
use Rattle.std.proofs.lemmas.List.{append-nil}
use Rattle.systems.specs.States.{up}
use Rattle.tables.specs.Memory.{meant}
use Rattle.duality.specs.Halves.{opened, Half, Settled}
use Rattle.duality.specs.Remaining.{AllPass, kept, left_masks}
use Rattle.duality.specs.Shares.{is_within, is_apart}
use Rattle.duality.specs.Asides.{left_path, left_cut}
use Rattle.duality.specs.Searches.{Stands, Known, Found, Undecided, Narrowed, Leaves, Led}
use Rattle.duality.specs.declared.splits.Frame.{Frame}
use Rattle.duality.proofs.Stacking.{length_stacked}
use Rattle.duality.proofs.Halving.{settled_back, all_back, left, left_back, left_push, half_push, marks_in}
use Rattle.duality.proofs.Findings.{OpenSince, closed, some_undecided, room, below_count, since_later, since_push, since_backed, split_low}
use Rattle.duality.proofs.RowFacts.{below_most, rows_below}
use Rattle.duality.proofs.Choosing.{undecided}
use Rattle.duality.proofs.Asides.{cut_there, aside_start, known_same, known_kept, known_back}
use Rattle.duality.proofs.Sifting.{same_masks}
use Rattle.duality.proofs.Passing.{pass_weaker}
use Rattle.duality.proofs.Narrowing.{PassForOf, passed_later, passed_thinned, passed_same, passed_kept, passed_back, cuts_before, masks_kept, led_backed, led_push}
use Rattle.duality.proofs.search.Search.find.Goals as goal

pub halves-init : goal.halves-init
halves-init g c =
    let bits = g.M.Mask.bits in
    let mem = g.K.SetKind.mem in
    let ps = map (meant mem) c.args.paths.now in
    let cs = map (meant mem) c.args.cuts.now in
    let s = c.args.self.now in
    let fs = opened s.splits in
    let few : length fs < 257 = omega (arith, length_stacked s.splits.depth s.splits.frames, s.splits.few) in
    let known : (n : ℕ) → Stands n s → Known bits mem n ps cs s c.new-left_paths.result c.new-left_cuts.result =
    λ n st. record {
      stands = st;
      low_paths = rows_below (meant mem) (λ x. below_most g.K.SetKind.top _ g.met.K.SetKind.small (g.met.K.SetKind.below x.set)) c.args.paths.now;
      low_cuts = rows_below (meant mem) (λ x. below_most g.K.SetKind.top _ g.met.K.SetKind.small (g.met.K.SetKind.below x.set)) c.args.cuts.now;
      paths = aside_start (left_path n) _ _ _ _ c.new-left_paths.ensures.all c.new-left_paths.ensures.counts fs (omega arith);
      cuts = aside_start left_cut _ _ _ _ c.new-left_cuts.ensures.all c.new-left_cuts.ensures.counts fs (omega arith);
    } in
    record {
      low = refl;
      high = refl;
      paths = c.look-finding.ensures.paths;
      cuts = c.look-finding.ensures.cuts;
      stands = λ n st. st;
      behind = λ n st b. b;
      known = λ n st. c.look-finding.ensures.known n ps cs (known n st);
      found = λ n st. c.look-finding.ensures.found n ps cs (known n st);
      only = λ n st. c.look-finding.ensures.only;
      passed = λ n st. passed_later bits left_cut c.look-finding.new.cuts c.count-earlier.result fs (omega (arith, c.count-earlier.ensures));
      all_paths = λ room. ap (λ l. l.now) c.look-finding.ensures.thinned_paths.behind ∙ c.new-left_paths.ensures.behind (omega (arith, room, c.split_at_mut-path_memory.ensures.front_len));
      all_cuts = λ room. ap (λ l. l.now) c.look-finding.ensures.thinned_cuts.behind ∙ c.new-left_cuts.ensures.behind (omega (arith, room, c.split_at_mut-path_memory.ensures.back_len));
      led = λ n d st p q l. l;
      since = λ n st. since_later n ps cs c.count-earlier.result fs (omega (arith, c.count-earlier.ensures));
    }

pub returns-in-Missed-clause-found : goal.returns-in-Missed-clause-found
returns-in-Missed-clause-found g c n st =
    let mem = g.K.SetKind.mem in
    subst (Found n (map (meant mem) c.args.paths.now) (map (meant mem) c.args.cuts.now) c.halves.self) c.in-Missed.is (c.halves.invariant.found n st)

-- the last half is closed
pub returns-in_err-split-in-Closed-clause-stands : goal.returns-in_err-split-in-Closed-clause-stands
returns-in_err-split-in-Closed-clause-stands g c n st = c.back.ensures.stands n (c.halves.invariant.stands n st)

pub returns-in_err-split-in-Closed-clause-behind : goal.returns-in_err-split-in-Closed-clause-behind
returns-in_err-split-in-Closed-clause-behind g c n st b =
    let mem = g.K.SetKind.mem in
    let ps = map (meant mem) c.args.paths.now in
    let cs = map (meant mem) c.args.cuts.now in
    let s = c.halves.self in
    let fs = opened s.splits in
    let i = c.halves.invariant in
    subst (λ (l : List Frame). Settled n ps cs l) (sym c.back.ensures.back)
    (settled_back n ps cs fs (i.behind n st b) (closed n ps cs fs s.low s.high (i.stands n st) (subst (Found n ps cs s) c.in-Closed.is (i.found n st))))

pub returns-in_err-split-in-Closed-clause-found : goal.returns-in_err-split-in-Closed-clause-found
returns-in_err-split-in-Closed-clause-found g c n st =
    let mem = g.K.SetKind.mem in
    let ps = map (meant mem) c.args.paths.now in
    let cs = map (meant mem) c.args.cuts.now in
    let s = c.halves.self in
    let fs = opened s.splits in
    let i = c.halves.invariant in
    let back = c.in_err-split-in-Closed.ensures in
    rw c.from_residual.ensures
    (λ b. all_back n ps cs fs (i.behind n st b) (closed n ps cs fs s.low s.high (i.stands n st) (subst (Found n ps cs s) c.in-Closed.is (i.found n st))) (sym back.back ∙ back.split))

pub returns-in_err-split-in-Closed-clause-led : goal.returns-in_err-split-in-Closed-clause-led
returns-in_err-split-in-Closed-clause-led g c n d st p q l = led_backed n _ _ d (opened c.halves.self.splits) _ c.back.ensures.back (c.halves.invariant.led n d st p q l)

pub go_back-requires : goal.go_back-requires
go_back-requires g c = let p = c.back.new.self.splits in omega (arith, c.in_ok-split-in-Closed.ensures.split, length_stacked p.depth p.frames, p.few)

pub go_back-requires-in-Closed : goal.go_back-requires-in-Closed
go_back-requires-in-Closed g c = let p = c.back.new.self.splits in omega (arith, c.in_ok-split-in-Closed.ensures.split, length_stacked p.depth p.frames, p.few)

pub overflow_add-earlier : goal.overflow_add-earlier
overflow_add-earlier g c = let p = c.back.new.self.splits in omega (arith, c.in_ok-split-in-Closed.ensures.split, length_stacked p.depth p.frames, p.few)

pub halves-smaller-then-split-earlier : goal.halves-smaller-then-split-earlier
halves-smaller-then-split-earlier g c =
    let fs = opened c.halves.self.splits in
    let back = c.in_ok-split-in-Closed.ensures in
    subst (λ (l : List Frame). left 256 l < left 256 fs) (sym back.back) (left_back 256 fs (λ z. omega (arith, back.split, ap length (back.back ∙ z))))

-- a split that was open before: its second half is looked at as a whole
pub halves-preserved-then-split-earlier : goal.halves-preserved-then-split-earlier
halves-preserved-then-split-earlier g c =
    let bits = g.M.Mask.bits in
    let mem = g.K.SetKind.mem in
    let ps = map (meant mem) c.args.paths.now in
    let cs = map (meant mem) c.args.cuts.now in
    let s = c.halves.self in
    let fs = opened s.splits in
    let i = c.halves.invariant in
    let after = c.back.new.self in
    let gs = opened after.splits in
    let back = c.in_ok-split-in-Closed.ensures in
    let look = c.look-finding-then-split-earlier.ensures in
    let known : (n : ℕ) → Stands n c.args.self.now → Known bits mem n ps cs after c.go_back.new.self c.go_back-in-Closed.new.self =
    λ n st. known_back (i.known n st) after c.in_ok-split-in-Closed.split c.go_back.new.self c.go_back-in-Closed.new.self (back.stands n (i.stands n st)) back.back back.split c.go_back.ensures.back c.go_back-in-Closed.ensures.back in
    record {
      low = back.counts.0 ∙ i.low;
      high = back.counts.1 ∙ i.high;
      paths = look.paths;
      cuts = look.cuts;
      stands = λ n st. back.stands n (i.stands n st);
      behind = λ n st b. subst (λ (l : List Frame). Settled n ps cs l) (sym back.back) (settled_back n ps cs fs (i.behind n st b) (closed n ps cs fs s.low s.high (i.stands n st) (subst (Found n ps cs s) c.in-Closed.is (i.found n st))));
      known = λ n st. look.known n ps cs (known n st);
      found = λ n st. look.found n ps cs (known n st);
      only = λ n st. look.only;
      passed = λ n st. passed_later bits left_cut c.look-finding-then-split-earlier.new.cuts (c.in_ok-split-in-Closed.split + 1) gs (omega (arith, back.split));
      all_paths = λ room. ap (λ l. l.now) (look.thinned_paths.behind ∙ c.go_back.ensures.back.behind) ∙ i.all_paths room;
      all_cuts = λ room. ap (λ l. l.now) (look.thinned_cuts.behind ∙ c.go_back-in-Closed.ensures.back.behind) ∙ i.all_cuts room;
      led = λ n d st p q l. led_backed n ps cs d fs gs back.back (i.led n d st p q l);
      since = λ n st. since_later n ps cs (c.in_ok-split-in-Closed.split + 1) gs (omega (arith, back.split));
    }

pub halves-smaller-else-split-earlier : goal.halves-smaller-else-split-earlier
halves-smaller-else-split-earlier g c =
    let fs = opened c.halves.self.splits in
    let back = c.in_ok-split-in-Closed.ensures in
    subst (λ (l : List Frame). left 256 l < left 256 fs) (sym back.back) (left_back 256 fs (λ z. omega (arith, back.split, ap length (back.back ∙ z))))

-- one that this call opened: the half that was split tells of its least state
pub halves-preserved-else-split-earlier : goal.halves-preserved-else-split-earlier
halves-preserved-else-split-earlier g c =
    let bits = g.M.Mask.bits in
    let mem = g.K.SetKind.mem in
    let ps = map (meant mem) c.args.paths.now in
    let cs = map (meant mem) c.args.cuts.now in
    let s = c.halves.self in
    let fs = opened s.splits in
    let i = c.halves.invariant in
    let after = c.back.new.self in
    let gs = opened after.splits in
    let split = c.in_ok-split-in-Closed.split in
    let back = c.in_ok-split-in-Closed.ensures in
    let look = c.look_down-finding.ensures in
    let known : (n : ℕ) → Stands n c.args.self.now → Known bits mem n ps cs after c.go_back.new.self c.go_back-in-Closed.new.self =
    λ n st. known_back (i.known n st) after split c.go_back.new.self c.go_back-in-Closed.new.self (back.stands n (i.stands n st)) back.back back.split c.go_back.ensures.back c.go_back-in-Closed.ensures.back in
    let passed : (n : ℕ) → Stands n c.args.self.now → PassForOf bits left_cut c.go_back-in-Closed.new.self c.halves.earlier gs =
    λ n st. passed_back bits left_cut c.halves.left_cuts c.go_back-in-Closed.new.self split c.halves.earlier fs gs c.go_back-in-Closed.ensures.back back.back (i.passed n st) in
    record {
      low = back.counts.0 ∙ i.low;
      high = back.counts.1 ∙ i.high;
      paths = look.paths;
      cuts = c.go_back-in-Closed.ensures.fits i.cuts;
      stands = λ n st. back.stands n (i.stands n st);
      behind = λ n st b. subst (λ (l : List Frame). Settled n ps cs l) (sym back.back) (settled_back n ps cs fs (i.behind n st b) (closed n ps cs fs s.low s.high (i.stands n st) (subst (Found n ps cs s) c.in-Closed.is (i.found n st))));
      known = λ n st. look.known n ps cs (known n st);
      found = λ n st.
          let of_split = split_low n ps cs c.halves.earlier split fs gs after.low after.high (since_backed n ps cs c.halves.earlier fs gs back.back (i.since n st)) back.back back.split (omega (arith, c.if-split-earlier.false)) (back.stands n (i.stands n st)) in
          look.found n ps cs (known n st) of_split.0 of_split.1;
      only = λ n st.
          look.only
          (cuts_before bits c.halves.left_cuts c.go_back-in-Closed.new.self c.halves.earlier split n fs gs after.low after.high c.go_back-in-Closed.ensures.back back.back back.split (omega (arith, c.if-split-earlier.false)) (back.stands n (i.stands n st)) (passed n st));
      passed = passed;
      all_paths = λ room. ap (λ l. l.now) (look.thinned.behind ∙ c.go_back.ensures.back.behind) ∙ i.all_paths room;
      all_cuts = λ room. ap (λ l. l.now) c.go_back-in-Closed.ensures.back.behind ∙ i.all_cuts room;
      led = λ n d st p q l. led_backed n ps cs d fs gs back.back (i.led n d st p q l);
      since = λ n st. since_backed n ps cs c.halves.earlier fs gs back.back (i.since n st);
    }

-- something is undecided in a half that has to be split
pub returns-in_err-item-in-Open-clause-found : goal.returns-in_err-item-in-Open-clause-found
returns-in_err-item-in-Open-clause-found g c n st =
    let mem = g.K.SetKind.mem in
    let ps = map (meant mem) c.args.paths.now in
    let cs = map (meant mem) c.args.cuts.now in
    let s = c.halves.self in
    absurd (some_undecided ps cs (up s.low) (up s.high) (subst (Found n ps cs s) c.in-Open.is (c.halves.invariant.found n st)) c.in_err-item-in-Open.ensures.chosen)

-- there are never more splits than items
pub returns-in_err-push-in-Open : goal.returns-in_err-push-in-Open
returns-in_err-push-in-Open g c =
    let s = c.halves.self in
    let item = c.in_ok-item-in-Open.item in
    let chosen = undecided (up s.high item) (up s.low item) c.in_ok-item-in-Open.ensures.chosen.item in
    let never : (n : ℕ) → Stands n c.args.self.now → ⊥ =
    λ n st.
    let h = c.halves.invariant.stands n st in
    let few = s.low.few in
    let lt = room n item (opened s.splits) s.low s.high h (below_count s.high item chosen.0) chosen.1 chosen.0 in
    let full = c.in_err-push-in-Open.ensures in
    omega (arith, h.low_count) in
    record { stands = λ n st. absurd (never n st); behind = λ n st. absurd (never n st); found = λ n st. absurd (never n st); led = λ n d st. absurd (never n st) }

pub keep-requires : goal.keep-requires
keep-requires g c = let p = c.push.new.self in omega (arith, c.count-split.ensures, ap length c.in_ok-push-in-Open.ensures, length_stacked p.depth p.frames, p.few)

pub keep-requires-in-Open : goal.keep-requires-in-Open
keep-requires-in-Open g c = let p = c.push.new.self in omega (arith, c.count-split.ensures, ap length c.in_ok-push-in-Open.ensures, length_stacked p.depth p.frames, p.few)

pub halves-smaller : goal.halves-smaller
halves-smaller g c =
    let fs = opened c.halves.self.splits in
    let e = c.in_ok-push-in-Open.ensures in
    let p = c.push.new.self in
    let lt : length fs < 256 = omega (arith, ap length e, length_stacked p.depth p.frames, p.few) in
    subst (λ (l : List Frame). left 256 l < left 256 fs) (sym e) (left_push 256 c.in_ok-item-in-Open.item fs lt)

-- the half that is split tells of its greatest state
pub halves-preserved : goal.halves-preserved
halves-preserved g c =
    let bits = g.M.Mask.bits in
    let mem = g.K.SetKind.mem in
    let ps = map (meant mem) c.args.paths.now in
    let cs = map (meant mem) c.args.cuts.now in
    let s = c.halves.self in
    let fs = opened s.splits in
    let i = c.halves.invariant in
    let item = c.in_ok-item-in-Open.item in
    let f : Frame = record { item = item; up = true } in
    let e = c.in_ok-push-in-Open.ensures in
    let p = c.push.new.self in
    let choice = c.in_ok-item-in-Open.ensures in
    let few : length fs < 256 = omega (arith, ap length e, length_stacked p.depth p.frames, p.few) in
    let paths = c.choose.new.paths in
    let cuts = c.choose.new.cuts in
    let chosen = undecided (up s.high item) (up s.low item) choice.chosen.item in
    let split : (n : ℕ) → Stands n c.args.self.now → Undecided ps cs (up s.low) (up s.high) = λ n st. subst (Found n ps cs s) c.in-Open.is (i.found n st) in
    let half : (n : ℕ) → Stands n c.args.self.now → Half n (opened p) c.set.new.self s.high =
    λ n st.
    let h = i.stands n st in
    let inside : item < s.high.count = below_count s.high item chosen.0 in
    let low : item < s.low.count = omega (arith, h.low_count, h.high_count) in
    let below : item < n = omega (arith, h.high_count) in
    subst (λ (l : List Frame). Half n l c.set.new.self s.high) (sym e)
    (half_push n item fs s.low s.high c.set.new.self h below chosen.1 chosen.0 (marks_in s.low c.set.new.self item true low c.set.ensures.count c.set.ensures.marks)) in
    let known : (n : ℕ) → Stands n c.args.self.now → Known bits mem n ps cs _ c.keep.new.self c.keep-in-Open.new.self =
    λ n st. known_kept (known_same (i.known n st) paths cuts choice.same_paths choice.same_cuts) _ f c.keep.new.self c.keep-in-Open.new.self (half n st) e
    (c.keep.ensures.kept ∙ ap (kept paths) c.count-split.ensures) (c.keep-in-Open.ensures.kept ∙ ap (kept cuts) c.count-split.ensures)
    (omega (arith, choice.paths.long)) (omega (arith, choice.cuts.long)) in
    let narrowed : (n : ℕ) → Stands n c.args.self.now → Narrowed bits s c.halves.left_paths c.halves.left_cuts =
    λ n st. subst (Leaves bits s c.halves.left_paths c.halves.left_cuts) c.in-Open.is (i.only n st) in
    let path_masks : left_masks bits c.keep.new.self ≡ left_masks bits c.halves.left_paths = masks_kept bits paths c.keep.new.self c.count-split.result c.keep.ensures.kept ∙ same_masks bits c.halves.left_paths paths choice.same_paths in
    let cut_masks : left_masks bits cuts ≡ left_masks bits c.halves.left_cuts = same_masks bits c.halves.left_cuts cuts choice.same_cuts in
    let rest_paths : c.keep.new.self.behind ≡ c.halves.left_paths.behind = ap (λ l. l.behind) c.keep.ensures.kept ∙ choice.same_paths.behind in
    let rest_cuts : c.keep-in-Open.new.self.behind ≡ c.halves.left_cuts.behind = ap (λ l. l.behind) c.keep-in-Open.ensures.kept ∙ choice.same_cuts.behind in
    record {
      low = c.set.ensures.count ∙ i.low;
      high = i.high;
      paths = c.keep.ensures.fits choice.paths;
      cuts = c.look_up-finding.ensures.cuts;
      stands = half;
      behind = λ n st b. subst (λ (l : List Frame). Settled n ps cs l) (sym e) ((λ q. absurd (true≢false q)), i.behind n st b);
      known = λ n st. c.look_up-finding.ensures.known n ps cs (known n st);
      found = λ n st. c.look_up-finding.ensures.found n ps cs (known n st) (split n st).path (split n st).no_cut;
      only = λ n st. c.look_up-finding.ensures.only (subst (AllPass (λ p. is_within p (up s.high))) (sym path_masks) (narrowed n st).paths);
      passed = λ n st.
          let cuts_left : AllPass (left_cut fs) (left_masks bits cuts) = subst (AllPass (left_cut fs)) (sym cut_masks) (pass_weaker (λ r. is_apart r (up s.low)) (left_cut fs) _ (cut_there n fs s.low s.high (i.stands n st)) (narrowed n st).cuts) in
          passed_thinned bits left_cut mem cs c.keep-in-Open.new.self _ c.halves.earlier _ c.look_up-finding.ensures.thinned (known n st).cuts
          (passed_kept bits left_cut cuts c.keep-in-Open.new.self c.halves.earlier f fs _ (c.keep-in-Open.ensures.kept ∙ ap (kept cuts) c.count-split.ensures) e (omega (arith, choice.cuts.long)) cuts_left (passed_same bits left_cut c.halves.left_cuts cuts c.halves.earlier fs choice.same_cuts (i.passed n st)));
      all_paths = λ room. ap (λ l. l.now) rest_paths ∙ i.all_paths room;
      all_cuts = λ room. ap (λ l. l.now) (c.look_up-finding.ensures.thinned.behind ∙ rest_cuts) ∙ i.all_cuts room;
      led = λ n d st p q l.
          let of_paths : ps ≡ ps ++ map (meant mem) c.halves.left_paths.behind.now = sym (ap (λ rows. ps ++ map (meant mem) rows) (i.all_paths p) ∙ append-nil ps) in
          let of_cuts : cs ≡ cs ++ map (meant mem) c.halves.left_cuts.behind.now = sym (ap (λ rows. cs ++ map (meant mem) rows) (i.all_cuts q) ∙ append-nil cs) in
          subst (Led n ps cs d) (sym e) (led_push n ps cs d f fs s.low s.high (i.stands n st) (choice.leads n ps cs ps cs (i.known n st) (narrowed n st) of_paths of_cuts) (i.led n d st p q l));
      since = λ n st. subst (OpenSince n ps cs c.halves.earlier) (sym e) (since_push n ps cs c.halves.earlier f fs s.low s.high (i.stands n st) (split n st) (i.since n st));
    }
