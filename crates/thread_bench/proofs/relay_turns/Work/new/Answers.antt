use Rattle.thread_bench.proofs.relay_turns.Work.new.Goals as goal
use Rattle.relay_ports.specs.Memory.{TapsMemory, seen_of}
use Rattle.relay_work.proofs.Beginning.{belongs_new}
use Rattle.std.proofs.Common.{ap, sym, ◌∙◌}
use Rattle.std.specs.Prelude.{List, [], length, ℕ, ◌++◌, ◌∷◌}

pub returns-in-Ok : goal.returns-in-Ok
returns-in-Ok c = belongs_new 1048576 c.push.new.self c.new-relay.result (seen_of c.new-taps.result) (c.new-relay.ensures c.push.new.self)
    (ap (λ (m : TapsMemory). m.clusters) c.new-taps.ensures
    ∙ sym (ap (λ (v : List (List ℕ)). length v) c.in-Ok.ensures.ok ∙ ap (λ (v : List (List ℕ)). length (v ++ (97 ∷ []) ∷ [])) c.new-names.ensures))
    (ap (λ (m : TapsMemory). (seen_of m).live) c.new-taps.ensures)
