use Rattle.number_set.proofs.Entries.{below_all, is_end, is_last}
use Rattle.number_set.proofs.map.NumberMap.place_of.Goals as goal
use Rattle.number_set.specs.NumberMap.{IsAt, IsGap}
use Rattle.std.proofs.Common.{arith, subst}
use Rattle.std.proofs.Math.ListN.{get_or}
use Rattle.std.specs.Prelude.{length, ◌-◌, ◌≡◌}

pub returns-then-last-number : goal.returns-then-last-number
returns-then-last-number g c =
    let item = c.in-Some.ensures.item in
    let long : length c.self.inside.items.items ≡ c.len.result = omega (arith, c.len.ensures, c.self.inside.items.ok.0) in
    let last = subst (λ n. c.in-Some.last.now ≡ get_or c.self.inside.items.items (n - 1) c.in-Some.last.now) c.self.inside.items.ok.0 item.1 in
    subst (λ es. IsAt c.args.number (c.len.result - 1) es) c.self.view_is
    (subst (λ n. IsAt c.args.number (n - 1) c.self.inside.items.items) long
    (is_last c.args.number c.in-Some.last.now c.self.inside.items.items c.self.invariant (omega (arith, item.3.0, c.self.inside.items.ok.0)) last c.if-last-number.true))

pub returns-then-number-last : goal.returns-then-number-last
returns-then-number-last g c =
    let item = c.in-Some.ensures.item in
    let long : length c.self.inside.items.items ≡ c.len-then-number-last.result = omega (arith, c.len-then-number-last.ensures, c.self.inside.items.ok.0) in
    let last = subst (λ n. c.in-Some.last.now ≡ get_or c.self.inside.items.items (n - 1) c.in-Some.last.now) c.self.inside.items.ok.0 item.1 in
    subst (λ es. IsGap c.args.number c.len-then-number-last.result es) c.self.view_is
    (subst (λ n. IsGap c.args.number n c.self.inside.items.items) long
    (is_end c.args.number (length c.self.inside.items.items) c.self.inside.items.items
    (below_all c.args.number c.in-Some.last.now c.self.inside.items.items c.self.invariant (omega (arith, item.3.0, c.self.inside.items.ok.0)) last c.if-number-last.true) (omega arith)))
