use Rattle.std.proofs.Common.{ap, sym, ◌∙◌}
use Rattle.std.specs.FinMap.{from_entries, get, insert}
use Rattle.std.specs.Option.{is_some, option_copied_mut}
use Rattle.std.specs.Ordering.{nat_cmp}
use Rattle.std.specs.Prelude.{None, Some, min, option_map, ℕ, ◌≡◌}
use Rattle.h2_windows.specs.RecvWindow.{Owes, Receiving}
use Rattle.paged_map.specs.PagedMap.{PagedMap}
use Rattle.wire_windows.proofs.Keeping.{changed_absent, changed_there}
use Rattle.wire_windows.proofs.Maps.{found, one_put}
use Rattle.wire_windows.proofs.by_exchange.owing.ByExchange+RecvStream.owe.Goals as goal
use Rattle.wire_windows.specs.Owing.{owing_most}
use Rattle.wire_windows.specs.RecvWindows.{RecvStreams, owing}
use Rattle.wire_windows.specs.declared.recv_stream.RecvStream.{RecvStream}

-- ---- the stream isn't there
none : (c : goal.After-self-in_default-2-1) → get c.args.self.now c.args.x ≡ None
none c = ap (λ (m : RecvStreams). get m c.args.x) (sym c.self.view_is) ∙ (found c.self.inside.map.entries c.args.x ∙ (sym c.get_mut.ensures.value ∙ ap option_copied_mut c.in_default.is))

pub returns-in_default-clause-answer : goal.returns-in_default-clause-answer
returns-in_default-clause-answer c = sym (ap (option_map (λ (s : RecvStream). (owing_most c.args.n s, min c.args.n s.window.held))) (none c))

pub returns-in_default-clause-owes : goal.returns-in_default-clause-owes
returns-in_default-clause-owes c =
    ap (λ (m : PagedMap RecvStream). from_entries {R = nat_cmp} m.entries) c.get_mut.follows.holds-at-none ∙ (c.self.view_is ∙ sym (changed_absent c.args.self.now c.args.x (owing_most c.args.n) (none c)))

-- ---- it is
module _ (n : ℕ) (s : RecvStream) (k m : ℕ) (window : Receiving) (count : k ≡ min n m) (held : m ≡ s.window.held) (owes : Owes s.window window k) where
  taken : k ≡ min n s.window.held
  taken = count ∙ ap (min n) held

  left_is : record s { window = window } ≡ owing_most n s
  left_is = ap (λ (w : Receiving). record s { window = w }) (owes ∙ ap (λ j. owing j s.window) taken)

pub returns-clause-answer : goal.returns-clause-answer
returns-clause-answer c =
    let there : get c.args.self.now c.args.x ≡ Some c.in-Some.stream.now =
    ap (λ (m : RecvStreams). get m c.args.x) (sym c.self.view_is) ∙ (found c.self.inside.map.entries c.args.x ∙ sym c.in-Some.ensures.value) in
    let is = left_is c.args.n c.in-Some.stream.now c.min-n.result c.held.result c.moved.new.self c.min-n.ensures c.held.ensures.held c.moved.ensures.owes in
    let few = taken c.args.n c.in-Some.stream.now c.min-n.result c.held.result c.moved.new.self c.min-n.ensures c.held.ensures.held c.moved.ensures.owes in
    (λ i. Some (is i, few i)) ∙ sym (ap (option_map (λ (s : RecvStream). (owing_most c.args.n s, min c.args.n s.window.held))) there)

pub returns-clause-owes : goal.returns-clause-owes
returns-clause-owes c =
    let there : get c.args.self.now c.args.x ≡ Some c.in-Some.stream.now =
    ap (λ (m : RecvStreams). get m c.args.x) (sym c.self.view_is) ∙ (found c.self.inside.map.entries c.args.x ∙ sym c.in-Some.ensures.value) in
    let t : RecvStream = record c.in-Some.stream.now { window = c.moved.new.self } in
    let is = left_is c.args.n c.in-Some.stream.now c.min-n.result c.held.result c.moved.new.self c.min-n.ensures c.held.ensures.held c.moved.ensures.owes in
    one_put c.self.inside.map.entries (c.get_mut.follows.lender t).entries c.args.x t ((c.get_mut.follows.holds t).3 (ap is_some (sym c.in-Some.ensures.value))).0
    ∙ (ap (λ (m : RecvStreams). insert m c.args.x t) c.self.view_is
    ∙ (ap (insert c.args.self.now c.args.x) is ∙ sym (changed_there c.args.self.now c.args.x (owing_most c.args.n) c.in-Some.stream.now there)))
