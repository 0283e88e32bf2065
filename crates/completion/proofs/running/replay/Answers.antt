-- The calls are made one after the other on two tables that were opened without rows.
use Rattle.std.proofs.Common.{◌<◌, min, [], length, get_or, drop, sym, ap, ◌∙◌, arith, rules}
use Rattle.std.proofs.lemmas.List.{length-take}
use Rattle.completion.specs.declared.call.Call.TheVariants.{PutPath}
use Rattle.tables.proofs.Keeping.{kept_same, kept_trans, left}
use Rattle.completion.proofs.Replaying.{running_none, running_more, replayed}
use Rattle.completion.proofs.running.replay.Goals as goal

pub loop-i-init : goal.loop-i-init
loop-i-init g c = record { paths = kept_same; cuts = kept_same; run = running_none }

pub loop-i-preserved : goal.loop-i-preserved
loop-i-preserved g c =
    let inv = c.loop-i.invariant in
    let i = c.loop-i.i in
    let long = length-take c.min-made.result c.args.answers.now in
    let called : i < length c.args.calls.now = omega (arith, long) in
    let answered : i < length c.loop-i.answer-items = omega arith in
    record {
      paths = kept_trans inv.paths c.step.ensures.paths_kept;
      cuts = kept_trans inv.cuts c.step.ensures.cuts_kept;
      run = running_more inv.run inv.paths.capacity inv.cuts.capacity (PutPath (record { ref_ptr = (0, 0); now = [] })) c.step.result called answered c.step.ensures.steps;
    }

pub returns-clause-permitted : goal.returns-clause-permitted
returns-clause-permitted g c pos low =
    let inv = c.loop-i.invariant in
    let p = c.open-paths.ensures.permitted pos low in
    let q = c.open-cuts.ensures.permitted pos low in
    let r = inv.run c.args.n p.empty q.empty in
    let a = min 4096 (length c.args.path_memory.now) in
    let b = min 4096 (length c.args.cut_memory.now) in
    let long = length-take c.min-made.result c.args.answers.now in
    let paths-lent = sym (inv.paths.lent ∙ c.open-paths.ensures.lent) in
    let cuts-lent = sym (inv.cuts.lent ∙ c.open-cuts.ensures.lent) in
    replayed a b r (drop c.min-made.result c.args.answers.now) (omega (arith, long)) (omega (arith, long)) p.capacity q.capacity
    (left a p.capacity p.length (λ k d h. p.beyond k d (omega (arith, p.capacity))) inv.paths r.paths (search (rules, paths-lent)) c.row_count.ensures.count)
    (left b q.capacity q.length (λ k d h. q.beyond k d (omega (arith, q.capacity))) inv.cuts r.cuts (search (rules, cuts-lent)) c.row_count-2.ensures.count)

pub returns-clause-wrong : goal.returns-clause-wrong
returns-clause-wrong g c out =
    let inv = c.loop-i.invariant in
    let p = c.open-paths.ensures.wrong out in
    let q = c.open-cuts.ensures.wrong out in
    let r = inv.run 0 p.empty q.empty in
    let long = length-take c.min-made.result c.args.answers.now in
    let paths-lent = sym (inv.paths.lent ∙ c.open-paths.ensures.lent) in
    let cuts-lent = sym (inv.cuts.lent ∙ c.open-cuts.ensures.lent) in
    replayed 0 0 r (drop c.min-made.result c.args.answers.now) (omega (arith, long)) (omega (arith, long)) p.capacity q.capacity
    (left 0 p.capacity (ap length p.memory_same) (λ k d h. ap (λ l. get_or l k d) p.memory_same) inv.paths r.paths (search (rules, paths-lent)) c.row_count.ensures.count)
    (left 0 q.capacity (ap length q.memory_same) (λ k d h. ap (λ l. get_or l k d) q.memory_same) inv.cuts r.cuts (search (rules, cuts-lent)) c.row_count-2.ensures.count)
