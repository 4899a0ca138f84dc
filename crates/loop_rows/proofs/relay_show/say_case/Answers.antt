use Rattle.relay_ports.specs.Memory.{TapsMemory, seen_of}
use Rattle.loop_rows.proofs.relay_show.say_case.Goals as goal
use Rattle.relay_work.proofs.Beginning.{belongs_new}
use Rattle.std.proofs.Common.{ap, sym, ◌∙◌}
use Rattle.std.specs.Prelude.{List, [], length, ℕ, ◌++◌, ◌∷◌}

pub run-requires : goal.run-requires
run-requires c = belongs_new c.args.case.limit c.push.new.self c.new-relay.result (seen_of c.take_at_most.new.self) (c.new-relay.ensures c.push.new.self)
    (ap (λ (m : TapsMemory). m.clusters) (c.take_at_most.ensures) ∙ ap (λ (m : TapsMemory). m.clusters) c.new-taps.ensures
    ∙ sym (ap (λ (v : List (List ℕ)). length v) c.in-Ok.ensures.ok ∙ ap (λ (v : List (List ℕ)). length (v ++ (97 ∷ []) ∷ [])) c.new-names.ensures))
    (ap (λ (m : TapsMemory). (seen_of m).live) c.take_at_most.ensures ∙ ap (λ (m : TapsMemory). (seen_of m).live) c.new-taps.ensures)
