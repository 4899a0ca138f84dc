-- What a pass of the queue knows.
use Rattle.atomic_blocks.specs.declared.web.Seat.{Seat}
use Rattle.crossbeam_queue.specs.declared.seg_queue.Going.{Going}

abbrev pub view : {S T V A : Type 0} → Seat S (Going T V) A → V
view p = p.me.view.client
