-- The room that was made stays, and suffices for what may come.
use Rattle.std.proofs.Common.{◌≡◌, ◌+◌, ◌<◌, ◌≤◌, ℕ, List, length, ap, arith, All}
use Rattle.std.proofs.Math.ListN.{get_or, set}
use Rattle.std.proofs.lemmas.List.Elements.{All-get_or, All-set}
use Rattle.filter_chain.specs.Place.{beyond}
use Rattle.filter_chain.specs.Stage.{IsReady, KeepsRoom}
use Rattle.filter_chain.specs.declared.stage.Stage.{Stage}

pub IsReady-kept : (quantum : ℕ) (old new : Stage) → KeepsRoom old new → IsReady quantum old → IsReady quantum new
IsReady-kept quantum old new keeps ready some =
    let limit : new.buffer.limit ≡ old.buffer.limit = keeps.limit in
    let extra : beyond new.kind quantum ≡ beyond old.kind quantum = ap (λ kind. beyond kind quantum) keeps.kind in
    let room : length old.buffer.octets + old.buffer.spare ≤ length new.buffer.octets + new.buffer.spare = keeps.room in
    let had : old.buffer.limit + beyond old.kind quantum ≤ length old.buffer.octets + old.buffer.spare = ready (omega arith) in
    omega arith

pub ready_stored : (quantum : ℕ) (stages : List Stage) (i : ℕ) (d new : Stage) → i < length stages → KeepsRoom (get_or stages i d) new → All (IsReady quantum) stages → All (IsReady quantum) (set stages i new)
ready_stored quantum stages i d new within keeps all =
    All-set (IsReady quantum) stages i new (IsReady-kept quantum (get_or stages i d) new keeps (All-get_or (IsReady quantum) stages i d within all)) all
