-- The configuration was read whole, or there is none.
use Rattle.io_ports.specs.Faults.{Rose}
use Rattle.proxy_config.specs.Ranges.{IsInRange}
use Rattle.config_tables.specs.Reading.{config_of}
use Rattle.proxy_config.specs.declared.config.Config.{Config}
use Rattle.config_tables.specs.declared.fault.ConfigFault.{ConfigFault}
use Rattle.proxy_site.proofs.Ending.{not_usage}
use Rattle.proxy_site.specs.Relaying.{SiteOrOut}
use Rattle.proxy_site.specs.Serving.{TellsEnd, end_status}
use Rattle.proxy_wire.specs.Serving.{ServesConfig, wire_status}
use Rattle.proxy_wire.specs.Tasks.{IsTask}
use Rattle.proxy_wire.specs.Working.{is_fault, is_memory, is_stopped}
use Rattle.proxy_wire.specs.declared.pool.Task.{Task}
use Rattle.proxy_wire.specs.declared.end.WireEnd.{WireEnd}
use Rattle.session_config.specs.Loading.{CausesFault, IsWhole, ReadsAs, ReadsWhole, StopsAs}
use Rattle.session_config.specs.declared.load.ConfigEnd.{ConfigEnd}
use Rattle.session_run.specs.declared.status.Status.{Status}
use Rattle.std.proofs.Common.{ap, arith, inl, inr, refl, subst, sym, ◌∙◌}
use Rattle.std.specs.List.{list_any}
use Rattle.std.specs.Prelude.{Bool, Err, List, Ok, Option, Result, false, if◌then◌else◌, length, true, ℕ, ◌<◌, ◌^◌, ◌≡◌, ◌≢◌, ◌≤◌, ◌⊎◌}
use Rattle.config_tables.specs.declared.fault.ConfigFault.TheVariants as faults
use Rattle.proxy_wire.specs.declared.end.WireEnd.TheVariants as ends
use Rattle.session_config.specs.declared.load.ConfigEnd.TheVariants as end
use Rattle.session_run.specs.declared.status.Status.TheVariants as status

-- what reading the octets alone answers
abbrev Text : Type 0
Text = Result (List ℕ) ConfigEnd

-- ---- no text
stops_so : (stop : ConfigEnd) (text : List ℕ) (left : Option (List ℕ)) → ReadsAs (Err stop) text left → StopsAs stop text left
stops_so (end.Refused f) text left k = absurd k
stops_so end.TooLong text left k = k
stops_so end.ReadFault text left k = k
stops_so end.Memory text left k = k

-- ---- no configuration
memory_or : (f : ConfigFault) → (f ≡ faults.NoMemory) ⊎ (f ≢ faults.NoMemory)
memory_or faults.NotToml = inr (λ e. cc)
memory_or (faults.Missing key) = inr (λ e. cc)
memory_or (faults.WrongKind key) = inr (λ e. cc)
memory_or (faults.OutOfRange key) = inr (λ e. cc)
memory_or (faults.Unknown key) = inr (λ e. cc)
memory_or (faults.UnknownCluster key) = inr (λ e. cc)
memory_or faults.NoMemory = inl refl

refused_so : (fault : ConfigFault) (stop : ConfigEnd) (text : List ℕ) (left : Option (List ℕ)) → IsWhole text left → (fault ≡ faults.NoMemory → stop ≡ end.Memory) → (fault ≢ faults.NoMemory → stop ≡ end.Refused fault) → (fault ≢ faults.NoMemory → config_of text ≡ Err fault) → StopsAs stop text left
refused_so fault stop text left whole memory refused is = by (memory_or fault)
  where
    by : (fault ≡ faults.NoMemory) ⊎ (fault ≢ faults.NoMemory) → StopsAs stop text left
    by (inl m) = subst (λ (s : ConfigEnd). StopsAs s text left) (sym (memory m)) tt
    by (inr o) = subst (λ (s : ConfigEnd). StopsAs s text left) (sym (refused o)) (whole, is o)

module _ {A B : Type 0} where
  pub unread : (Serves : Config → Type 0) (l l' : Option (List ℕ)) (told : A) (wired : B) (out out' : Option (List ℕ)) (how : Status) (r : Text) (stop : ConfigEnd) → r ≡ Err stop → ReadsWhole l l' r → TellsEnd stop how out out' → ServesConfig Serves l l' told told wired wired out out' how
  unread Serves l l' told wired out out' how r stop e reads tells =
      let P : Text → Type 0 = λ v. ReadsWhole l l' v in
      let k : ReadsWhole l l' (Err stop) = subst P e reads in
      inr (record { stop = stop; text = k.text; consumes = k.consumes; stops = stops_so stop k.text l' k.is; tells = tells }, (refl, refl))

  pub unfit : (Serves : Config → Type 0) (l l' : Option (List ℕ)) (told : A) (wired : B) (out out' : Option (List ℕ)) (how : Status) (r : Text) (all : List ℕ) (fault : ConfigFault) (stop : ConfigEnd) → r ≡ Ok all → ReadsWhole l l' r → (fault ≡ faults.NoMemory → stop ≡ end.Memory) → (fault ≢ faults.NoMemory → stop ≡ end.Refused fault)
      → (fault ≢ faults.NoMemory → config_of all ≡ Err fault) → TellsEnd stop how out out' → ServesConfig Serves l l' told told wired wired out out' how
  unfit Serves l l' told wired out out' how r all fault stop e reads memory refused is tells =
      let P : Text → Type 0 = λ v. ReadsWhole l l' v in
      let k : ReadsWhole l l' (Ok all) = subst P e reads in
      let of_text : fault ≢ faults.NoMemory → config_of k.text ≡ Err fault = λ o. ap config_of (sym k.is.1) ∙ is o in
      inr (record { stop = stop; text = k.text; consumes = k.consumes; stops = refused_so fault stop k.text l' k.is.0 memory refused of_text; tells = tells }, (refl, refl))

  pub served_whole : (Serves : Config → Type 0) (l l' : Option (List ℕ)) (told told' : A) (wired wired' : B) (out out' : Option (List ℕ)) (how : Status) (r : Text) (all : List ℕ) (config : Config) → r ≡ Ok all → ReadsWhole l l' r → config_of all ≡ Ok config → Serves config → ServesConfig Serves l l' told told' wired wired' out out' how
  served_whole Serves l l' told told' wired wired' out out' how r all config e reads is served =
      let P : Text → Type 0 = λ v. ReadsWhole l l' v in
      let k : ReadsWhole l l' (Ok all) = subst P e reads in
      inl (record { config = config; text = k.text; consumes = k.consumes; whole = k.is.0; is = ap config_of (sym k.is.1) ∙ is; served = served })

-- ---- so it is short
pub short_text : (l l' : Option (List ℕ)) (r : Text) (all : List ℕ) → r ≡ Ok all → ReadsWhole l l' r → length all < 2 ^ 32
short_text l l' r all e reads =
    let P : Text → Type 0 = λ v. ReadsWhole l l' v in
    let k : ReadsWhole l l' (Ok all) = subst P e reads in
    let most : length k.text ≤ 1048576 = k.is.0.1 in
    let same : length all ≡ length k.text = ap (λ (v : List ℕ). length v) k.is.1 in
    omega (arith, most, same)

pub is_task : (task : Task) → IsInRange task.config.now → config_of task.text.now ≡ Ok task.config.now → length task.text.now < 2 ^ 32 → IsTask task
is_task task in_range is short = record { in_range = in_range; is = is; short = short }

-- ---- why it ended
end_fault : (stop : ConfigEnd) → end_status stop ≡ status.ReadFault → stop ≡ end.ReadFault
end_fault (end.Refused fault) e = cc
end_fault end.TooLong e = cc
end_fault end.ReadFault e = refl
end_fault end.Memory e = cc

pub end_no_usage : (stop : ConfigEnd) (how : Status) (out out' : Option (List ℕ)) → TellsEnd stop how out out' → how ≡ status.Usage → ⊥
end_no_usage stop how out out' tells e = not_usage stop how out out' tells e

pub end_read : (stop : ConfigEnd) (how : Status) (out out' : Option (List ℕ)) → TellsEnd stop how out out' → how ≡ status.ReadFault → stop ≡ end.ReadFault
end_read stop how out out' (inl k) f = end_fault stop (sym k.0 ∙ f)
end_read stop how out out' (inr (inl k)) f = let i : status.WriteFault ≡ status.ReadFault = sym k.0 ∙ f in cc
end_read stop how out out' (inr (inr k)) f = let i : status.Memory ≡ status.ReadFault = sym k.0 ∙ f in cc

pub fault_read : (old new : ℕ) (r : Text) (stop : ConfigEnd) → r ≡ Err stop → CausesFault old new r → stop ≡ end.ReadFault → Rose old new
fault_read old new r stop e cause f =
    let P : Text → Type 0 = λ v. CausesFault old new v in
    let Q : ConfigEnd → Type 0 = λ v. CausesFault {T = List ℕ} old new (Err v) in
    subst Q f (subst P e cause)

pub fault_other : (fault : ConfigFault) (stop : ConfigEnd) → (fault ≡ faults.NoMemory → stop ≡ end.Memory) → (fault ≢ faults.NoMemory → stop ≡ end.Refused fault) → stop ≡ end.ReadFault → ⊥
fault_other fault stop memory refused f = by (memory_or fault)
  where
    by : (fault ≡ faults.NoMemory) ⊎ (fault ≢ faults.NoMemory) → ⊥
    by (inl m) = let i : end.Memory ≡ end.ReadFault = sym (memory m) ∙ f in cc
    by (inr o) = let i : end.Refused fault ≡ end.ReadFault = sym (refused o) ∙ f in cc

-- ---- the status of workers
module _ (how : Status) (no_write : status.WriteFault ≡ how → ⊥) (no_memory : status.Memory ≡ how → ⊥) (no_done : status.Done ≡ how → ⊥) where
  ends_other : (b c : Bool) → (if b then status.WriteFault else if c then status.Memory else status.Done) ≡ how → ⊥
  ends_other true c e = no_write e
  ends_other false true e = no_memory e
  ends_other false false e = no_done e

  threads_other : (f s m : Bool) → (if f then status.WriteFault else if s then status.Memory else if f then status.WriteFault else if m then status.Memory else status.Done) ≡ how → ⊥
  threads_other true s m e = no_write e
  threads_other false true m e = no_memory e
  threads_other false false m e = ends_other false m e

  wire_other : (e : WireEnd) → wire_status e ≡ how → ⊥
  wire_other ends.Listen e = no_write e
  wire_other ends.Fit e = no_write e
  wire_other ends.JournalHead e = no_write e
  wire_other ends.Write e = no_write e
  wire_other ends.Memory e = no_memory e
  wire_other (ends.Workers all) e = ends_other (list_any is_fault all.items) (list_any is_memory all.items) e
  wire_other (ends.Round all) e = no_write e
  wire_other (ends.Threads all) e = threads_other (list_any is_fault all.items) (list_any is_stopped all.items) (list_any is_memory all.items) e

pub wire_no_usage : (e : WireEnd) (how : Status) → how ≡ wire_status e → how ≡ status.Usage → ⊥
wire_no_usage e how is u = wire_other status.Usage (λ i. cc) (λ i. cc) (λ i. cc) e (sym is ∙ u)

pub wire_no_read : (e : WireEnd) (how : Status) → how ≡ wire_status e → how ≡ status.ReadFault → ⊥
wire_no_read e how is u = wire_other status.ReadFault (λ i. cc) (λ i. cc) (λ i. cc) e (sym is ∙ u)

-- ---- a fault of the output alone
pub out_fault : (how : Status) (a b x y : ℕ) → (how ≡ status.WriteFault → Rose x y) → SiteOrOut how a b x y
out_fault how a b x y cause e = inr (cause e)
