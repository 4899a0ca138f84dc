-- A relay that was run, or wasn't begun.
use Rattle.io_ports.specs.Faults.{Rose}
use Rattle.proxy_config.specs.declared.config.Config.{Config}
use Rattle.proxy_site.specs.Relaying.{IsCutShort, Relays, RelaysOver, ServesRelay, ended_status, journal_head, listening_line}
use Rattle.proxy_site.proofs.Telling.{all_told}
use Rattle.proxy_site.specs.Sites.{IsUnused, TellsBack, TellsGiven, TellsListening, Told}
use Rattle.relay_laws.specs.Pairs.{is_open}
use Rattle.relay_work.specs.Belonging.{Belong, Belongs}
use Rattle.relay_work.specs.Live.{live_of}
use Rattle.relay_work.specs.Works.{WorksFrom}
use Rattle.relay_work.specs.declared.turns.RelayEnded.{RelayEnded}
use Rattle.session_config.specs.ClusterNames.{names_in}
use Rattle.session_run.specs.Ends.{AppendsFront}
use Rattle.session_run.specs.declared.status.Status.{Status}
use Rattle.std.proofs.Common.{ap, arith, inl, inr, refl, subst, sym, ◌∙◌}
use Rattle.std.proofs.lemmas.List.{append-nil, length-map}
use Rattle.std.specs.Io.KnownBytes.{Appends}
use Rattle.std.specs.List.{list_any}
use Rattle.std.specs.Prelude.{List, None, Option, Some, [], length, nat_eq, false, true, ℕ, ◌-◌, ◌<◌, ◌^◌, ◌≡◌, ◌≤◌, ◌⊎◌}
use Rattle.tcp_relay.specs.Rests.{Rests}
use Rattle.tcp_relay.specs.declared.relay.Relay.{Relay}
use Rattle.worker_ports.specs.Wires.{Seen, is_live}
use Rattle.relay_work.specs.declared.turns.RelayEnded.TheVariants as ended
use Rattle.session_run.specs.declared.status.Status.TheVariants as status

-- ---- nothing was written
known_kept : (a : Option (List ℕ)) → Appends a a []
known_kept None = tt
known_kept (Some x) = sym (append-nil x)

pub front_none : (a : Option (List ℕ)) (text : List ℕ) → AppendsFront a a text
front_none a text = record { front = []; rest = text; is = refl; appends = known_kept a }

-- ---- counts
pub rose_later : (a b c : ℕ) → a ≤ b → Rose b c → Rose a c
rose_later a b c l (inl r) = inl (omega (arith, l, r))
rose_later a b c l (inr r) = inr r

pub rose_some : (a b : ℕ) → Rose a b → 0 < b
rose_some a b (inl r) = omega (arith, r)
rose_some a b (inr r) = omega (arith, r)

-- ---- new ones belong together
belong_new : (config : Config) (relay : Relay) (seen : Seen) → Rests config.limits.write_buffer (names_in config) relay [] → IsUnused (length config.clusters) seen
    → Belong config.limits.write_buffer (names_in config) relay seen []
belong_new config relay seen rests unused = record {
  rests = rests;
  clusters = unused.clusters ∙ sym (length-map config.clusters (λ c. c.name));
  newer = tt;
  live = none_live;
  held = λ c l. absurd (not_live c l);
}
  where
    none_live : (c : ℕ) → is_live c seen ≡ is_open c []
    none_live c = ap (λ (live : List ℕ). list_any (nat_eq c) live) unused.live

    not_live : (c : ℕ) → is_live c seen ≡ true → ⊥
    not_live c l = let i : true ≡ false = sym l ∙ ap (λ (live : List ℕ). list_any (nat_eq c) live) unused.live in cc

pub belongs_new : (config : Config) (names : List (List ℕ)) (relay : Relay) (seen : Seen) → names ≡ names_in config → ((ns : List (List ℕ)) → Rests config.limits.write_buffer ns relay []) → IsUnused (length config.clusters) seen → Belongs names relay seen
belongs_new config names relay seen e rests unused =
    subst (λ (ns : List (List ℕ)). Belongs ns relay seen) (sym e) (record { limit = config.limits.write_buffer; tape = []; belong = belong_new config relay seen (rests (names_in config)) unused })

pub relays : (config : Config) (names : List (List ℕ)) (n : ℕ) (first last : Relay) (seen_old seen_new : Seen) (text_old text_new : Option (List ℕ)) (end : RelayEnded)
    → names ≡ names_in config → ((ns : List (List ℕ)) → Rests config.limits.write_buffer ns first []) → IsUnused (length config.clusters) seen_old
    → WorksFrom names n (live_of first seen_old text_old) end (live_of last seen_new text_new) → Relays config n seen_old text_old end seen_new text_new
relays config names n first last seen_old seen_new text_old text_new end e rests unused works =
    let from : WorksFrom (names_in config) n (live_of first seen_old text_old) end (live_of last seen_new text_new) = subst (λ (ns : List (List ℕ)). WorksFrom ns n (live_of first seen_old text_old) end (live_of last seen_new text_new)) e works in
    record {
      first = first;
      last = last;
      starts = rests (names_in config);
      works = from.goes config.limits.write_buffer [] (belong_new config first seen_old (rests (names_in config)) unused);
    }

-- ---- how it ended
pub ended_fault : (end : RelayEnded) → ended_status end ≡ status.WriteFault → (end ≡ ended.TapsFault) ⊎ (end ≡ ended.JournalFault)
ended_fault ended.Turns e = cc
ended_fault ended.Stopped e = cc
ended_fault ended.TapsFault e = inl refl
ended_fault ended.JournalFault e = inr refl
ended_fault ended.Memory e = cc

ended_other : (end : RelayEnded) (how : Status) → how ≡ ended_status end → (how ≡ status.Usage → ⊥) × (how ≡ status.ReadFault → ⊥)
ended_other ended.Turns how e = (λ u. let i : status.Done ≡ status.Usage = sym e ∙ u in cc, λ u. let i : status.Done ≡ status.ReadFault = sym e ∙ u in cc)
ended_other ended.Stopped how e = (λ u. let i : status.Done ≡ status.Usage = sym e ∙ u in cc, λ u. let i : status.Done ≡ status.ReadFault = sym e ∙ u in cc)
ended_other ended.TapsFault how e = (λ u. let i : status.WriteFault ≡ status.Usage = sym e ∙ u in cc, λ u. let i : status.WriteFault ≡ status.ReadFault = sym e ∙ u in cc)
ended_other ended.JournalFault how e = (λ u. let i : status.WriteFault ≡ status.Usage = sym e ∙ u in cc, λ u. let i : status.WriteFault ≡ status.ReadFault = sym e ∙ u in cc)
ended_other ended.Memory how e = (λ u. let i : status.Memory ≡ status.Usage = sym e ∙ u in cc, λ u. let i : status.Memory ≡ status.ReadFault = sym e ∙ u in cc)

cut_other : (how : Status) → IsCutShort how → (how ≡ status.Usage → ⊥) × (how ≡ status.ReadFault → ⊥)
cut_other how (inl e) = (λ u. let i : status.Memory ≡ status.Usage = sym e ∙ u in cc, λ u. let i : status.Memory ≡ status.ReadFault = sym e ∙ u in cc)
cut_other how (inr e) = (λ u. let i : status.WriteFault ≡ status.Usage = sym e ∙ u in cc, λ u. let i : status.WriteFault ≡ status.ReadFault = sym e ∙ u in cc)

over_other : (config : Config) (n : ℕ) (address : List ℕ) (seen_old seen_new : Seen) (text_old text_new out_old out_new : Option (List ℕ)) (how : Status)
    → RelaysOver config n address seen_old seen_new text_old text_new out_old out_new how → (how ≡ status.Usage → ⊥) × (how ≡ status.ReadFault → ⊥)
over_other config n address seen_old seen_new text_old text_new out_old out_new how (inl r) = ended_other r.end how r.ends
over_other config n address seen_old seen_new text_old text_new out_old out_new how (inr r) = cut_other how r.cut

module _ {T J : Type 0} (seen_of : T → Seen) (text_of : J → Option (List ℕ)) where
  pub serves_other : (config : Config) (n : ℕ) (old new : Option (Told T J)) (out_old out_new : Option (List ℕ)) (how : Status)
      → ServesRelay seen_of text_of config n old new out_old out_new how → (how ≡ status.Usage → ⊥) × (how ≡ status.ReadFault → ⊥)
  serves_other config n old new out_old out_new how (inl l) =
      over_other config n l.address (seen_of l.given.0) (seen_of l.back.0) (text_of l.given.1) (text_of l.back.1) out_old out_new how l.over
  serves_other config n old new out_old out_new how (inr l) = cut_other how l.cut

-- ---- over connections and a journal
pub ran : (config : Config) (n : ℕ) (address : List ℕ) (seen_old seen_new : Seen) (text_old begun text_new out_old out_new : Option (List ℕ)) (end : RelayEnded)
    → Appends text_old begun journal_head × Appends out_old out_new (listening_line address) → Relays config n seen_old begun end seen_new text_new
    → RelaysOver config n address seen_old seen_new text_old text_new out_old out_new (ended_status end)
ran config n address seen_old seen_new text_old begun text_new out_old out_new end b r = inl (record { line = b.1; begun = begun; head = b.0; end = end; relayed = r; ends = refl })

pub not_begun : (config : Config) (n : ℕ) (address : List ℕ) (seen : Seen) (text_old text_new out_old out_new : Option (List ℕ)) (how : Status)
    → AppendsFront text_old text_new journal_head → AppendsFront out_old out_new (listening_line address) → IsCutShort how
    → RelaysOver config n address seen seen text_old text_new out_old out_new how
not_begun config n address seen text_old text_new out_old out_new how h l c = inr (record { line = l; head = h; seen = refl; cut = c })

-- the connections, the journal or the output failed
pub ran_fault : (end : RelayEnded) (taps_old taps_new journal_old journal_mid journal_new : ℕ) (Out : Type 0) → (end ≡ ended.TapsFault → Rose taps_old taps_new) → (end ≡ ended.JournalFault → Rose journal_mid journal_new)
    → journal_old ≤ journal_mid → ended_status end ≡ status.WriteFault → Rose taps_old taps_new ⊎ (Rose journal_old journal_new ⊎ Out)
ran_fault end taps_old taps_new journal_old journal_mid journal_new Out t j l e = by (ended_fault end e)
  where
    by : (end ≡ ended.TapsFault) ⊎ (end ≡ ended.JournalFault) → Rose taps_old taps_new ⊎ (Rose journal_old journal_new ⊎ Out)
    by (inl k) = inl (t k)
    by (inr k) = inr (inl (rose_later journal_old journal_mid journal_new l (j k)))

module _ {T J : Type 0} (seen_of : T → Seen) (text_of : J → Option (List ℕ)) where
  -- it listened, and what the site gave was worked over
  pub listened : (config : Config) (n : ℕ) (old at mid new : Option (Told T J)) (address : List ℕ) (given back : T × J) (out_old out_new : Option (List ℕ)) (how : Status)
      → TellsListening old (config.proxy.listen, address) at → TellsGiven at given mid → TellsBack mid back new
      → RelaysOver config n address (seen_of given.0) (seen_of back.0) (text_of given.1) (text_of back.1) out_old out_new how
      → ServesRelay seen_of text_of config n old new out_old out_new how
  listened config n old at mid new address given back out_old out_new how l g b over = inl (record {
    address = address;
    given = given;
    back = back;
    told = all_told old at mid new (config.proxy.listen, address) given back l g b;
    over = over;
  })

-- a fault of what it gave is one of its own
pub site_fault : (taps journal site_old site_mid site_new out_old out_new : ℕ) → site_old ≤ site_mid → ((0 < taps) ⊎ (0 < journal) → Rose site_mid site_new)
    → Rose 0 taps ⊎ (Rose 0 journal ⊎ Rose out_old out_new) → Rose site_old site_new ⊎ Rose out_old out_new
site_fault taps journal site_old site_mid site_new out_old out_new l count (inl t) = inl (rose_later site_old site_mid site_new l (count (inl (rose_some 0 taps t))))
site_fault taps journal site_old site_mid site_new out_old out_new l count (inr (inl j)) = inl (rose_later site_old site_mid site_new l (count (inr (rose_some 0 journal j))))
site_fault taps journal site_old site_mid site_new out_old out_new l count (inr (inr o)) = inr o
