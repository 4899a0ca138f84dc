-- The status that tells how the workers ended.
use Rattle.proxy_wire.specs.Working.{EndsSo, ends_status, is_fault, is_memory, is_stopped, threads_status}
use Rattle.std.proofs.Common.{inl, inr, refl}
use Rattle.std.specs.List.{list_any}
use Rattle.std.specs.Prelude.{Bool, List, false, if◌then◌else◌, true, ◌≡◌}
use Rattle.worker_loop.specs.declared.turns.Ended.{Ended}
use Rattle.session_run.specs.declared.status.Status.TheVariants as status

pub threads_so : (ends : List Ended) → EndsSo (threads_status ends) ends
threads_so ends = by (list_any is_fault ends) (list_any is_stopped ends) refl
  where
    by : (f s : Bool) → list_any is_stopped ends ≡ s → EndsSo (if f then status.WriteFault else if s then status.Memory else ends_status ends) ends
    by true s is = inr (inl refl)
    by false true is = inr (inr (refl, is))
    by false false is = inl refl

pub threads_fault : (ends : List Ended) → threads_status ends ≡ status.WriteFault → ends_status ends ≡ status.WriteFault
threads_fault ends e = by (list_any is_fault ends) (list_any is_stopped ends) (list_any is_memory ends) e
  where
    by : (f s m : Bool) → (if f then status.WriteFault else if s then status.Memory else if f then status.WriteFault else if m then status.Memory else status.Done) ≡ status.WriteFault → (if f then status.WriteFault else if m then status.Memory else status.Done) ≡ status.WriteFault
    by true s m e = refl
    by false true m e = let i : status.Memory ≡ status.WriteFault = e in cc
    by false false m e = e
