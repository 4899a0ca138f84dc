-- The proxy listened, or it didn't.
use Rattle.io_ports.specs.Faults.{Rose}
use Rattle.metered_wires.specs.declared.metering.MeteredWires.{MeteredWires}
use Rattle.proxy_config.specs.declared.config.Config.{Config}
use Rattle.proxy_site.proofs.Relayed.{rose_later}
use Rattle.proxy_site.specs.Relaying.{IsCutShort, SiteOrOut}
use Rattle.proxy_site.specs.Sites.{TellsListening, Told}
use Rattle.proxy_wire.specs.Serving.{AllRan, NoneRan, ServesWire, metered_outside}
use Rattle.proxy_site.specs.WireSites.{WireTold}
use Rattle.session_run.specs.declared.status.Status.{Status}
use Rattle.std.proofs.Common.{inl, inr, subst, sym}
use Rattle.std.specs.Prelude.{List, Option, ℕ, ◌<◌, ◌≡◌, ◌≤◌, ◌⊎◌}
use Rattle.worker_ports.specs.declared.wires.Wires.{Ghosts}
use Rattle.worker_threads.specs.Starting.{Outside}

module _ {W C L : Type 0} (G : Ghosts W) (o : Outside W C L) where
  abbrev Over : (config : Config) (n : ℕ) (address : List ℕ) (w w' : Option (WireTold W C L)) (out out' : Option (List ℕ)) (how : Status) → Type 0
  Over config n address w w' out out' how =
      NoneRan o.seen o.text config address w w' out out' how
      ⊎ (((config.proxy.accept_rate ≡ 0) × AllRan (λ (v : W). v) o config n address w w' out out' how)
      ⊎ ((0 < config.proxy.accept_rate) × AllRan (λ (m : MeteredWires W G). m.inner) (metered_outside G o) config n address w w' out out' how))

  over_plain : (config : Config) (n : ℕ) (address : List ℕ) (w w' : Option (WireTold W C L)) (out out' : Option (List ℕ)) (how : Status) → config.proxy.accept_rate ≡ 0 → NoneRan o.seen o.text config address w w' out out' how ⊎ AllRan (λ (v : W). v) o config n address w w' out out' how → Over config n address w w' out out' how
  over_plain config n address w w' out out' how no_rate (inl none) = inl none
  over_plain config n address w w' out out' how no_rate (inr all) = inr (inl (no_rate, all))

  over_metered : (config : Config) (n : ℕ) (address : List ℕ) (w w' : Option (WireTold W C L)) (out out' : Option (List ℕ)) (how : Status) → 0 < config.proxy.accept_rate → NoneRan o.seen o.text config address w w' out out' how ⊎ AllRan (λ (m : MeteredWires W G). m.inner) (metered_outside G o) config n address w w' out out' how
      → Over config n address w w' out out' how
  over_metered config n address w w' out out' how rate (inl none) = inl none
  over_metered config n address w w' out out' how rate (inr all) = inr (inr (rate, all))

module _ {T J : Type 0} {W C L : Type 0} (G : Ghosts W) (o : Outside W C L) where
  pub not_listened : (config : Config) (n : ℕ) (a b : Option (Told T J)) (w w' : Option (WireTold W C L)) (out out' : Option (List ℕ)) (how : Status) → b ≡ a → w' ≡ w → out' ≡ out → IsCutShort how → ServesWire G o config n a b w w' out out' how
  not_listened config n a b w w' out out' how told wired same cut = inl (record { told = told; wired = wired; out = same; cut = cut })

  listened_over : (config : Config) (n : ℕ) (address : List ℕ) (a b c : Option (Told T J)) (w v w' : Option (WireTold W C L)) (out out' : Option (List ℕ)) (how : Status) → TellsListening a (config.proxy.listen, address) b → c ≡ b → v ≡ w → Over G o config n address v w' out out' how
      → ServesWire G o config n a c w w' out out' how
  listened_over config n address a b c w v w' out out' how told same wired over =
      inr (record {
        address = address;
        told = subst (λ (t : Option (Told T J)). TellsListening a (config.proxy.listen, address) t) (sym same) told;
        over = subst (λ (t : Option (WireTold W C L)). Over G o config n address t w' out out' how) wired over;
      })

  pub listened : (config : Config) (n : ℕ) (address : List ℕ) (a b c : Option (Told T J)) (w v w' : Option (WireTold W C L)) (out out' : Option (List ℕ)) (how : Status) → TellsListening a (config.proxy.listen, address) b → c ≡ b → v ≡ w
      → config.proxy.accept_rate ≡ 0 → NoneRan o.seen o.text config address v w' out out' how ⊎ AllRan (λ (m : W). m) o config n address v w' out out' how → ServesWire G o config n a c w w' out out' how
  listened config n address a b c w v w' out out' how told same wired no_rate ran = listened_over config n address a b c w v w' out out' how told same wired (over_plain G o config n address v w' out out' how no_rate ran)

  pub listened_metered : (config : Config) (n : ℕ) (address : List ℕ) (a b c : Option (Told T J)) (w v w' : Option (WireTold W C L)) (out out' : Option (List ℕ)) (how : Status) → TellsListening a (config.proxy.listen, address) b → c ≡ b → v ≡ w
      → 0 < config.proxy.accept_rate → NoneRan o.seen o.text config address v w' out out' how ⊎ AllRan (λ (m : MeteredWires W G). m.inner) (metered_outside G o) config n address v w' out out' how → ServesWire G o config n a c w w' out out' how
  listened_metered config n address a b c w v w' out out' how told same wired rate ran = listened_over config n address a b c w v w' out out' how told same wired (over_metered G o config n address v w' out out' how rate ran)

pub fault_later : (how : Status) (a b c x y : ℕ) → a ≤ b → SiteOrOut how b c x y → SiteOrOut how a c x y
fault_later how a b c x y le so e = by (so e)
  where
    by : Rose b c ⊎ Rose x y → Rose a c ⊎ Rose x y
    by (inl site) = inl (rose_later a b c le site)
    by (inr out) = inr out

-- ---- by the status of the end
pub so_served : {T J W C L : Type 0} (G : Ghosts W) (o : Outside W C L) (config : Config) (n : ℕ) (a b : Option (Told T J)) (w w' : Option (WireTold W C L)) (out out' : Option (List ℕ)) (how told : Status) → told ≡ how → ServesWire G o config n a b w w' out out' how → ServesWire G o config n a b w w' out out' told
so_served G o config n a b w w' out out' how told e served = subst (λ (v : Status). ServesWire G o config n a b w w' out out' v) (sym e) served

pub so_caused : (how told : Status) (a b x y : ℕ) → told ≡ how → SiteOrOut how a b x y → SiteOrOut told a b x y
so_caused how told a b x y e cause = subst (λ (v : Status). SiteOrOut v a b x y) (sym e) cause
