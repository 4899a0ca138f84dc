-- What a head and a whole payload give.
use Rattle.h2_frames.specs.Fault.{payload_fault}
use Rattle.h2_frames.specs.Head.{Head}
use Rattle.h2_frames.specs.Payload.{Says}
use Rattle.h2_frames.specs.View.{view}
use Rattle.h2_frames.specs.declared.types.Frame.{Frame as Borrowed}
use Rattle.h2_frames.specs.declared.types.FrameFault.{FrameFault}
use Rattle.std.specs.Prelude.{List, MatchResult, Result, Some, ℕ, ◌≡◌}

-- what the payload says, or the first fault that it shows
abbrev pub Decodes : Head → List ℕ → Result Borrowed FrameFault → Type 0
Decodes head payload result = MatchResult result
    (λ frame. Says head payload (view frame))
    (λ fault. payload_fault head payload ≡ Some fault)
