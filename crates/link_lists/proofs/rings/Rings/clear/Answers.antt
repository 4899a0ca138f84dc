use Rattle.std.proofs.Common.{ap, sym, ◌∙◌, length, arith}
use Rattle.link_lists.specs.Seen.{emptied}
use Rattle.link_lists.proofs.Fronts.{size_at, taken_away, empty_already}
use Rattle.link_lists.proofs.rings.Rings.clear.Goals as goal

pub free-requires : goal.free-requires
free-requires g c = (taken_away c.loop-at.self c.args.ring c.in-Some.at.ptr c.in-Some.ensures.first c.in-Some.ensures.lone).0

pub loop-at-smaller : goal.loop-at-smaller
loop-at-smaller g c =
    let t = taken_away c.loop-at.self c.args.ring c.in-Some.at.ptr c.in-Some.ensures.first c.in-Some.ensures.lone in
    let n = ap (size_at c.args.ring) c.free.ensures.left in let m = t.2 in omega (arith, n, m)

pub loop-at-preserved : goal.loop-at-preserved
loop-at-preserved g c =
    let t = taken_away c.loop-at.self c.args.ring c.in-Some.at.ptr c.in-Some.ensures.first c.in-Some.ensures.lone in
    record {
      in_range = let n = ap length c.free.ensures.left in let m = t.3 in let h = c.loop-at.invariant.in_range in omega (arith, n, m, h);
      same = ap (emptied c.args.ring) c.free.ensures.left ∙ t.1 ∙ c.loop-at.invariant.same;
    }

pub returns : goal.returns
returns g c = sym (empty_already c.loop-at.self c.args.ring c.in_default.ensures.first) ∙ c.loop-at.invariant.same
