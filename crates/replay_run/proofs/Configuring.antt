-- A configuration that isn't there, and a session that is run under one.
use Rattle.io_ports.specs.Faults.{Rose}
use Rattle.config_tables.specs.Reading.{config_of}
use Rattle.proxy_config.specs.declared.config.Config.{Config}
use Rattle.relay_run.specs.Replays.{ReplaysRelay}
use Rattle.replay_run.specs.ReplayUnder.{ConfigEnds, ConfigEndsAs, Configured, EndsAtConfig, ReplaysUnder, ShedCompletes, Unconfigured, WireCompletes, end_status, end_text}
use Rattle.session_config.specs.Loading.{CausesFault, Loads, StopsAs, longest_config}
use Rattle.session_config.specs.declared.load.ConfigEnd.{ConfigEnd}
use Rattle.session_run.specs.Ends.{AppendsFront}
use Rattle.session_run.specs.declared.status.Status.{Status}
use Rattle.std.proofs.Common.{ap, arith, inl, inr, length-append, refl, subst, sym, ◌∙◌}
use Rattle.std.proofs.lemmas.List.{append-nil}
use Rattle.std.specs.Io.KnownBytes.{Appends, Consumes, IsAtEnd}
use Rattle.std.specs.Prelude.{Err, List, None, Ok, Option, Result, Some, [], length, ℕ, ◌++◌, ◌≡◌, ◌≤◌, ◌⊎◌}
use Rattle.shed_run.specs.Allowed as shed
use Rattle.wire_run.specs.Allowed.{Completes, IsUnrefused}
use Rattle.session_config.specs.declared.load.ConfigEnd.TheVariants as end
use Rattle.session_run.specs.declared.status.Status.TheVariants as status

-- ---- the line of a configuration that isn't there
ends_as : (stop : ConfigEnd) (text told : List ℕ) (left : Option (List ℕ)) → told ≡ end_text stop → StopsAs stop text left → ConfigEndsAs (end_status stop) text told left
ends_as (end.Refused fault) text told left e k = record { fault = fault; whole = k.0; refused = k.1; is = e }
ends_as end.TooLong text told left e k = (k, e)
ends_as end.ReadFault text told left e k = (k, e)
ends_as end.Memory text told left e k = e

ends_whole : (stop : ConfigEnd) (text told : List ℕ) (left : Option (List ℕ)) → told ≡ end_text stop → StopsAs stop text left → ConfigEnds (end_status stop) text told left
ends_whole (end.Refused fault) text told left e k = ends_as (end.Refused fault) text told left e k
ends_whole end.TooLong text told left e k = ends_as end.TooLong text told left e k
ends_whole end.ReadFault text told left e k = ends_as end.ReadFault text told left e k
ends_whole end.Memory text told left e k = ends_as end.Memory text told left e k

pub end_written : (stop : ConfigEnd) (out_old out_new : Option (List ℕ)) (told : List ℕ) (how : Status) → told ≡ end_text stop → Appends out_old out_new told → how ≡ end_status stop → EndsAtConfig stop out_old out_new how
end_written stop out_old out_new told how e a eh = record {
  told = told;
  appends = a;
  goes = λ text left k. let P : Status → Type 0 = λ v. ConfigEnds v text told left in subst P (sym eh) (ends_whole stop text told left e k);
}

pub end_cut : (stop : ConfigEnd) (out_old out_new : Option (List ℕ)) (told : List ℕ) → told ≡ end_text stop → AppendsFront out_old out_new told → EndsAtConfig stop out_old out_new status.WriteFault
end_cut stop out_old out_new told e f = record {
  told = f.front;
  appends = f.appends;
  goes = λ text left k. record { status = end_status stop; whole = told; rest = f.rest; front = f.is; ends = ends_as stop text told left e k };
}

known_kept : (a : Option (List ℕ)) → Appends a a []
known_kept None = tt
known_kept (Some x) = sym (append-nil x)

pub end_lost : (stop : ConfigEnd) (out : Option (List ℕ)) → EndsAtConfig stop out out status.Memory
end_lost stop out = record { told = []; appends = known_kept out; goes = λ text left k. refl }

pub end_read_fault : (stop : ConfigEnd) (how : Status) → how ≡ end_status stop → how ≡ status.ReadFault → stop ≡ end.ReadFault
end_read_fault (end.Refused fault) how e r = let i : status.Config ≡ status.ReadFault = sym e ∙ r in cc
end_read_fault end.TooLong how e r = let i : status.TooLong ≡ status.ReadFault = sym e ∙ r in cc
end_read_fault end.ReadFault how e r = refl
end_read_fault end.Memory how e r = let i : status.Memory ≡ status.ReadFault = sym e ∙ r in cc

pub end_write_fault : (stop : ConfigEnd) (how : Status) → how ≡ end_status stop → how ≡ status.WriteFault → ⊥
end_write_fault (end.Refused fault) how e r = let i : status.Config ≡ status.WriteFault = sym e ∙ r in cc
end_write_fault end.TooLong how e r = let i : status.TooLong ≡ status.WriteFault = sym e ∙ r in cc
end_write_fault end.ReadFault how e r = let i : status.ReadFault ≡ status.WriteFault = sym e ∙ r in cc
end_write_fault end.Memory how e r = let i : status.Memory ≡ status.WriteFault = sym e ∙ r in cc

-- ---- a session under a configuration that was read
abbrev Answer : Type 0
Answer = Result Config ConfigEnd

pub loaded : (config_old config_new : Option (List ℕ)) (r : Answer) (config : Config) → r ≡ Ok config → Loads config_old config_new r → (text : List ℕ) × (config_of text ≡ Ok config)
loaded config_old config_new r config e l =
    let P : Answer → Type 0 = λ v. Loads config_old config_new v in
    let k : Loads config_old config_new (Ok config) = subst P e l in
    (k.text, k.is.1)

pub run_under : (Run : List ℕ → Status → Type 0) (config_old config_new left_old left_new out_old out_new : Option (List ℕ)) (how : Status) (r : Answer) (config : Config) → r ≡ Ok config → Loads config_old config_new r
    → ((text : List ℕ) → config_of text ≡ Ok config → Run text how) → ReplaysUnder Run config_old config_new left_old left_new out_old out_new how
run_under Run config_old config_new left_old left_new out_old out_new how r config e l run =
    let P : Answer → Type 0 = λ v. Loads config_old config_new v in
    let k : Loads config_old config_new (Ok config) = subst P e l in
    Configured k.text k.consumes k.is.0 (run k.text k.is.1)

pub none_under : (Run : List ℕ → Status → Type 0) (config_old config_new left out_old out_new : Option (List ℕ)) (how : Status) (r : Answer) (stop : ConfigEnd) → r ≡ Err stop → Loads config_old config_new r
    → EndsAtConfig stop out_old out_new how → ReplaysUnder Run config_old config_new left left out_old out_new how
none_under Run config_old config_new left out_old out_new how r stop e l ends =
    let P : Answer → Type 0 = λ v. Loads config_old config_new v in
    let k : Loads config_old config_new (Err stop) = subst P e l in
    Unconfigured (record { text = k.text; told = ends.told; consumes = k.consumes; appends = ends.appends; unread = refl; ends = ends.goes k.text config_new k.is })

-- the status isn't that of other words
pub relay_not_usage : (text : List ℕ) (left_old left_new out_old out_new : Option (List ℕ)) (how : Status) → ReplaysRelay text left_old left_new out_old out_new how → how ≡ status.Usage → ⊥
relay_not_usage text left_old left_new out_old out_new how run e =
    let P : Status → Type 0 = λ v. ReplaysRelay text left_old left_new out_old out_new v in
    (subst P e run).tells.ends

pub end_not_usage : (stop : ConfigEnd) (how : Status) → (how ≡ end_status stop) ⊎ (how ≡ status.Memory) ⊎ (how ≡ status.WriteFault) → how ≡ status.Usage → ⊥
end_not_usage stop how (inr (inl e)) u = let i : status.Memory ≡ status.Usage = sym e ∙ u in cc
end_not_usage stop how (inr (inr e)) u = let i : status.WriteFault ≡ status.Usage = sym e ∙ u in cc
end_not_usage (end.Refused fault) how (inl e) u = let i : status.Config ≡ status.Usage = sym e ∙ u in cc
end_not_usage end.TooLong how (inl e) u = let i : status.TooLong ≡ status.Usage = sym e ∙ u in cc
end_not_usage end.ReadFault how (inl e) u = let i : status.ReadFault ≡ status.Usage = sym e ∙ u in cc
end_not_usage end.Memory how (inl e) u = let i : status.Memory ≡ status.Usage = sym e ∙ u in cc

-- a fault of the configuration's source has its cause
pub config_fault : (old new : ℕ) (r : Answer) (stop : ConfigEnd) → r ≡ Err stop → CausesFault old new r → stop ≡ end.ReadFault → Rose old new
config_fault old new r stop e c is =
    let P : Answer → Type 0 = λ v. CausesFault old new v in
    let Q : ConfigEnd → Type 0 = λ v. CausesFault {T = Config} old new (Err v) in
    subst Q is (subst P e c)

-- ---- a wire session

-- what was read to its end was the whole of it
whole_text : (given text : List ℕ) (left : Option (List ℕ)) → Consumes (Some given) left text → IsAtEnd left → given ≡ text
whole_text given text None c e = absurd c
whole_text given text (Some ys) c e = c ∙ ap (λ (v : List ℕ). text ++ v) e ∙ append-nil text

same_answer : {T E : Type 0} (a b : T) → (let r : Result T E = Ok a in r) ≡ Ok b → a ≡ b
same_answer a b e = cc

pub wire_completed : (config_old config_new session : Option (List ℕ)) (how : Status) (r : Answer) (keys : Config) → r ≡ Ok keys → Loads config_old config_new r
    → ((text : List ℕ) → config_of text ≡ Ok keys → Completes keys session how) → WireCompletes config_old session how
wire_completed None config_new session how r keys e l done = tt
wire_completed (Some given) config_new session how r keys e l done = λ config c short.
    let P : Answer → Type 0 = λ v. Loads (Some given) config_new v in
    let k : Loads (Some given) config_new (Ok keys) = subst P e l in
    let all = whole_text given k.text config_new k.consumes k.is.0.0 in
    let Q : Config → Type 0 = λ v. Completes v session how in
    subst Q (same_answer keys config (sym k.is.1 ∙ sym (ap config_of all) ∙ c)) (done k.text k.is.1)

-- a configuration that is there isn't refused
unrefused_end : (stop : ConfigEnd) (given text : List ℕ) (left : Option (List ℕ)) (config : Config) (how : Status) → Consumes (Some given) left text → StopsAs stop text left → config_of given ≡ Ok config → length given ≤ longest_config
    → (how ≡ end_status stop) ⊎ (how ≡ status.Memory) ⊎ (how ≡ status.WriteFault) → IsUnrefused how
unrefused_end stop given text left config how c k ok short (inr (inl e)) = let P : Status → Type 0 = λ v. IsUnrefused v in subst P (sym e) tt
unrefused_end stop given text left config how c k ok short (inr (inr e)) = let P : Status → Type 0 = λ v. IsUnrefused v in subst P (sym e) tt
unrefused_end (end.Refused fault) given text left config how c k ok short (inl e) =
    let all = whole_text given text left c k.0.0 in
    let no : Err fault ≡ Ok config = sym k.1 ∙ sym (ap config_of all) ∙ ok in
    cc
unrefused_end end.TooLong given text None config how c k ok short (inl e) = absurd c
unrefused_end end.TooLong given text (Some ys) config how c k ok short (inl e) = let l = ap length c ∙ length-append text ys in absurd (omega (arith, l, k, short))
unrefused_end end.ReadFault given text left config how c k ok short (inl e) = let P : Status → Type 0 = λ v. IsUnrefused v in subst P (sym e) tt
unrefused_end end.Memory given text left config how c k ok short (inl e) = let P : Status → Type 0 = λ v. IsUnrefused v in subst P (sym e) tt

session_unread : (config : Config) (session : Option (List ℕ)) (how : Status) → IsUnrefused how → Completes config session how
session_unread config None how k = tt
session_unread config (Some text) how k = λ a. k

pub wire_unconfigured : (config_old config_new session : Option (List ℕ)) (how : Status) (r : Answer) (stop : ConfigEnd) → r ≡ Err stop → Loads config_old config_new r
    → (how ≡ end_status stop) ⊎ (how ≡ status.Memory) ⊎ (how ≡ status.WriteFault) → WireCompletes config_old session how
wire_unconfigured None config_new session how r stop e l s = tt
wire_unconfigured (Some given) config_new session how r stop e l s = λ config c short.
    let P : Answer → Type 0 = λ v. Loads (Some given) config_new v in
    let k : Loads (Some given) config_new (Err stop) = subst P e l in
    session_unread config session how (unrefused_end stop given k.text config_new config how k.consumes k.is c short s)

-- ---- a session for the load shed points

pub shed_completed : (config_old config_new session : Option (List ℕ)) (how : Status) (r : Answer) (keys : Config) → r ≡ Ok keys → Loads config_old config_new r
    → ((text : List ℕ) → config_of text ≡ Ok keys → shed.Completes keys session how) → ShedCompletes config_old session how
shed_completed None config_new session how r keys e l done = tt
shed_completed (Some given) config_new session how r keys e l done = λ config c short.
    let P : Answer → Type 0 = λ v. Loads (Some given) config_new v in
    let k : Loads (Some given) config_new (Ok keys) = subst P e l in
    let all = whole_text given k.text config_new k.consumes k.is.0.0 in
    let Q : Config → Type 0 = λ v. shed.Completes v session how in
    subst Q (same_answer keys config (sym k.is.1 ∙ sym (ap config_of all) ∙ c)) (done k.text k.is.1)

shed_unread : (config : Config) (session : Option (List ℕ)) (how : Status) → IsUnrefused how → shed.Completes config session how
shed_unread config None how k = tt
shed_unread config (Some text) how k = λ a. k

pub shed_unconfigured : (config_old config_new session : Option (List ℕ)) (how : Status) (r : Answer) (stop : ConfigEnd) → r ≡ Err stop → Loads config_old config_new r
    → (how ≡ end_status stop) ⊎ (how ≡ status.Memory) ⊎ (how ≡ status.WriteFault) → ShedCompletes config_old session how
shed_unconfigured None config_new session how r stop e l s = tt
shed_unconfigured (Some given) config_new session how r stop e l s = λ config c short.
    let P : Answer → Type 0 = λ v. Loads (Some given) config_new v in
    let k : Loads (Some given) config_new (Err stop) = subst P e l in
    shed_unread config session how (unrefused_end stop given k.text config_new config how k.consumes k.is c short s)
