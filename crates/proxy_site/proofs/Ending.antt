-- A configuration that isn't there.
use Rattle.io_ports.specs.Faults.{Rose}
use Rattle.proxy_config.specs.declared.config.Config.{Config}
use Rattle.proxy_site.specs.Serving.{ServesUnder, TellsEnd, end_line, end_status}
use Rattle.session_config.specs.Loading.{CausesFault, Loads}
use Rattle.session_config.specs.declared.load.ConfigEnd.{ConfigEnd}
use Rattle.session_run.specs.Ends.{AppendsFront}
use Rattle.session_run.specs.declared.status.Status.{Status}
use Rattle.std.proofs.Common.{inl, inr, refl, subst, sym, ◌∙◌}
use Rattle.std.specs.Io.KnownBytes.{Appends}
use Rattle.std.specs.Prelude.{Err, List, Ok, Option, Result, ℕ, ◌≡◌}
use Rattle.session_config.specs.declared.load.ConfigEnd.TheVariants as end
use Rattle.session_run.specs.declared.status.Status.TheVariants as status

abbrev Answer : Type 0
Answer = Result Config ConfigEnd

pub end_written : (stop : ConfigEnd) (how : Status) (out_old out_new : Option (List ℕ)) (line : List ℕ) → line ≡ end_line stop → how ≡ end_status stop → Appends out_old out_new line → TellsEnd stop how out_old out_new
end_written stop how out_old out_new line e s a = inl (s, subst (λ (v : List ℕ). Appends out_old out_new v) e a)

pub end_cut : (stop : ConfigEnd) (how : Status) (out_old out_new : Option (List ℕ)) (line : List ℕ) → line ≡ end_line stop → how ≡ status.WriteFault → AppendsFront out_old out_new line → TellsEnd stop how out_old out_new
end_cut stop how out_old out_new line e s a = inr (inl (s, subst (λ (v : List ℕ). AppendsFront out_old out_new v) e a))

pub end_lost : (stop : ConfigEnd) (how : Status) (out : Option (List ℕ)) → how ≡ status.Memory → TellsEnd stop how out out
end_lost stop how out s = inr (inr (s, refl))

-- no configuration is missing because its line couldn't be written
pub end_write_fault : (stop : ConfigEnd) → end_status stop ≡ status.WriteFault → ⊥
end_write_fault (end.Refused fault) e = cc
end_write_fault end.TooLong e = cc
end_write_fault end.ReadFault e = cc
end_write_fault end.Memory e = cc

end_usage : (stop : ConfigEnd) → end_status stop ≡ status.Usage → ⊥
end_usage (end.Refused fault) e = cc
end_usage end.TooLong e = cc
end_usage end.ReadFault e = cc
end_usage end.Memory e = cc

end_read_fault : (stop : ConfigEnd) → end_status stop ≡ status.ReadFault → stop ≡ end.ReadFault
end_read_fault (end.Refused fault) e = cc
end_read_fault end.TooLong e = cc
end_read_fault end.ReadFault e = refl
end_read_fault end.Memory e = cc

pub not_usage : (stop : ConfigEnd) (how : Status) (out_old out_new : Option (List ℕ)) → TellsEnd stop how out_old out_new → how ≡ status.Usage → ⊥
not_usage stop how out_old out_new (inl k) u = end_usage stop (sym k.0 ∙ u)
not_usage stop how out_old out_new (inr (inl k)) u = let i : status.WriteFault ≡ status.Usage = sym k.0 ∙ u in cc
not_usage stop how out_old out_new (inr (inr k)) u = let i : status.Memory ≡ status.Usage = sym k.0 ∙ u in cc

pub read_fault : (stop : ConfigEnd) (how : Status) (out_old out_new : Option (List ℕ)) (old new : ℕ) (r : Answer) → r ≡ Err stop → CausesFault old new r → TellsEnd stop how out_old out_new → how ≡ status.ReadFault → Rose old new
read_fault stop how out_old out_new old new r e c (inl k) f =
    let P : Answer → Type 0 = λ v. CausesFault old new v in
    let Q : ConfigEnd → Type 0 = λ v. CausesFault {T = Config} old new (Err v) in
    subst Q (end_read_fault stop (sym k.0 ∙ f)) (subst P e c)
read_fault stop how out_old out_new old new r e c (inr (inl k)) f = let i : status.WriteFault ≡ status.ReadFault = sym k.0 ∙ f in cc
read_fault stop how out_old out_new old new r e c (inr (inr k)) f = let i : status.Memory ≡ status.ReadFault = sym k.0 ∙ f in cc

-- ---- what was served
pub served_under : {A : Type 0} (Serves : Config → Type 0) (left_old left_new : Option (List ℕ)) (told_old told_new : A) (out_old out_new : Option (List ℕ)) (how : Status) (r : Answer) (config : Config)
    → r ≡ Ok config → Loads left_old left_new r → Serves config → ServesUnder Serves left_old left_new told_old told_new out_old out_new how
served_under Serves left_old left_new told_old told_new out_old out_new how r config e l s =
    let P : Answer → Type 0 = λ v. Loads left_old left_new v in
    let k : Loads left_old left_new (Ok config) = subst P e l in
    inl (record { config = config; text = k.text; consumes = k.consumes; whole = k.is.0; is = k.is.1; served = s })

pub none_under : {A : Type 0} (Serves : Config → Type 0) (left_old left_new : Option (List ℕ)) (told : A) (out_old out_new : Option (List ℕ)) (how : Status) (r : Answer) (stop : ConfigEnd)
    → r ≡ Err stop → Loads left_old left_new r → TellsEnd stop how out_old out_new → ServesUnder Serves left_old left_new told told out_old out_new how
none_under Serves left_old left_new told out_old out_new how r stop e l t =
    let P : Answer → Type 0 = λ v. Loads left_old left_new v in
    let k : Loads left_old left_new (Err stop) = subst P e l in
    inr (record { stop = stop; text = k.text; consumes = k.consumes; stops = k.is; tells = t }, refl)
