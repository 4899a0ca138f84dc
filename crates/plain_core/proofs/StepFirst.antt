-- A core before its first event.
use Rattle.plain_laws.proofs.Founding.{none_rests}
use Rattle.proxy_config.specs.Ranges.{IsRoute}
use Rattle.std.proofs.Common.{inl, inr, refl, sym}
use Rattle.std.specs.BTreeMap.{get}
use Rattle.std.specs.Ordering.{nat_cmp}
use Rattle.std.specs.Prelude.{All, [], false, ℕ, ◌≡◌}
use Rattle.tape_laws.specs.Dispatches.{is_some_of}
use Rattle.tape_laws.specs.declared.PlainLimits.{PlainLimits}
use Rattle.plain_core.specs.Flows.{Settled}
use Rattle.plain_core.specs.Progress.{Pairs, Underway}
use Rattle.plain_core.specs.Stands.{BooksAre, Rests}
use Rattle.plain_core.specs.declared.plain.PlainCore.{PlainCore}

none_there : (pairs : Pairs) (s x : ℕ) → pairs.entries ≡ [] → is_some_of (get nat_cmp pairs s) x ≡ false
none_there pairs s x e = cc

first_books : (core : PlainCore) → core.turn ≡ 0 → core.pairs.entries ≡ [] → All IsRoute core.config.routes → BooksAre core []
first_books core turn pairs routes = record { turn = turn; pairs = λ s x. sym (none_there core.pairs s x pairs); routes = routes }

first_underway : (limits : PlainLimits) (pairs : Pairs) → Underway limits pairs [] []
first_underway limits pairs = record {
  runs = λ x is m. absurd (cc);
  tells = inl refl;
  ends = λ x is e. absurd (cc);
  reasons = tt;
  unswept = inl refl;
  rested = inr (refl, record { none = inr (λ x is. absurd (cc)) });
}

pub core_rests : (limits : PlainLimits) (core : PlainCore) → Settled limits core.flows [] → core.turn ≡ 0 → core.pairs.entries ≡ [] → All IsRoute core.config.routes → core.agenda ≡ []
    → core.failed ≡ false → Rests limits core []
core_rests limits core flows turn pairs routes idle well =
    record {
      good = record { flows = flows; books = first_books core turn pairs routes; underway = rw idle (first_underway limits core.pairs) };
      whole = record { lawful = (none_rests limits).regular.lawful; quiet = (none_rests limits).quiet };
      idle = idle;
      well = well;
    }
