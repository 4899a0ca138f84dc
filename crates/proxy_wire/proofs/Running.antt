-- The workers ran, or none did.
use Rattle.io_ports.specs.Faults.{Rose}
use Rattle.proxy_config.specs.declared.config.Config.{Config}
use Rattle.proxy_wire.proofs.Pooling.{all_some, pool_ready, front_of, idle_paid, some_of}
use Rattle.proxy_site.proofs.Relayed.{front_none}
use Rattle.proxy_site.specs.Relaying.{IsCutShort, SiteOrOut, listening_line}
use Rattle.proxy_wire.proofs.Returning.{rose_before, rose_on}
use Rattle.proxy_wire.specs.Hires.{HiresAll, HiresSome}
use Rattle.proxy_wire.specs.declared.pool.Pool.{Pool}
use Rattle.proxy_wire.proofs.Telling.{fitted_none, returned_none, workers_tell}
use Rattle.proxy_wire.specs.Pools.{EachTwo, IsHired, IsIdle, IsPaid, OneFailed, back_of}
use Rattle.proxy_wire.specs.Runs.{PoolIdle, PoolRan, PoolWorks, WorksAll}
use Rattle.proxy_wire.specs.Serving.{AllRan, NoneRan, Unused, wire_status}
use Rattle.proxy_site.specs.WireSites.{TellsFitted, TellsReturned, WireTold, numbered}
use Rattle.proxy_wire.specs.Working.{EndsSo, WorkerRan, ends_status, is_fault, is_memory}
use Rattle.proxy_wire.specs.declared.end.LoopEnd.{LoopEnd}
use Rattle.proxy_wire.specs.declared.end.WireEnd.{WireEnd}
use Rattle.session_run.specs.Ends.{AppendsFront}
use Rattle.session_run.specs.declared.status.Status.{Status}
use Rattle.shared_state.specs.declared.permits.Permits.{Permits}
use Rattle.std.proofs.Common.{Vec, ap, arith, inl, inr, refl, subst, sym, ◌∙◌}
use Rattle.std.proofs.lemmas.Bool.{false≢true}
use Rattle.std.proofs.lemmas.List.{get_or-map, length-map, with_items_is}
use Rattle.std.specs.Io.KnownBytes.{Appends}
use Rattle.std.specs.List.{All, list_any}
use Rattle.std.specs.Vec.{with_items}
use Rattle.std.specs.Prelude.{Bool, Err, IfOk, List, MatchResult, Ok, OnErr, Option, Result, [], false, if◌then◌else◌, length, map, reverse, slice_index_or, suc, true, ℕ, ◌<◌, ◌||◌, ◌∷◌, ◌≡◌, ◌≤◌, ◌⊎◌}
use Rattle.worker_loop.specs.Parts.{CameUpTo, Hands}
use Rattle.worker_loop.specs.declared.turns.Ended.{Ended}
use Rattle.worker_ports.specs.Wires.{Seen}
use Rattle.worker_ports.specs.declared.ports.OpenGate.{OpenGate}
use Rattle.worker_threads.specs.Starting.{IsReady, Outside, Worked, WorkedEach}
use Rattle.worker_threads.specs.declared.worker.Shared.{Shared}
use Rattle.worker_threads.specs.declared.worker.Worker.{Worker}
use Rattle.proxy_wire.specs.declared.end.LoopEnd.TheVariants as loops
use Rattle.session_run.specs.declared.status.Status.TheVariants as status
use Rattle.worker_loop.specs.declared.turns.Ended.TheVariants as ended

-- ---- a fault of one worker
pub rose_some : (a b : ℕ) → Rose a b → 0 < b
rose_some a b (inl less) = omega (arith, less)
rose_some a b (inr end) = omega (arith, end)

by_fault : (ends : List Ended) → ends_status ends ≡ status.WriteFault → list_any is_fault ends ≡ true
by_fault ends e = by (list_any is_fault ends) (list_any is_memory ends) e
  where
    by : (b c : Bool) → (if b then status.WriteFault else if c then status.Memory else status.Done) ≡ status.WriteFault → b ≡ true
    by true c e = refl
    by false true e = cc
    by false false e = cc

-- the first that ended by one
record FaultAt (ends : List Ended) : Type 0 where
  place : ℕ
  least : place < length ends
  is : (d : Ended) → is_fault (slice_index_or ends place d) ≡ true

fault_later : (x : Ended) (xs : List Ended) → FaultAt xs → FaultAt (x ∷ xs)
fault_later x xs f = record { place = suc f.place; least = (let l = f.least in omega (arith, l)); is = f.is }

fault_by : (x : Ended) (xs : List Ended) (b : Bool) → (list_any is_fault xs ≡ true → FaultAt xs) → is_fault x ≡ b → (b || list_any is_fault xs) ≡ true → FaultAt (x ∷ xs)
fault_by x xs true later t r = record { place = 0; least = omega arith; is = λ d. t }
fault_by x xs false later t r = fault_later x xs (later r)

fault_at : (ends : List Ended) → list_any is_fault ends ≡ true → FaultAt ends
fault_at [] e = absurd (false≢true e)
fault_at (x ∷ xs) e = fault_by x xs (is_fault x) (λ r. fault_at xs r) refl e

module _ {M C L : Type 0} (o : Outside M C L) where
  worked_fault : (shared : Shared) (place n : ℕ) (old : Worker M C OpenGate L) (end : Ended) (new : Worker M C OpenGate L) → Worked o shared place n old end new → is_fault end ≡ true
      → (0 < o.wires_faults new.wires) ⊎ (0 < o.journal_faults new.journal)
  worked_fault shared place n old ended.WiresFault new w t = inl (rose_some (o.wires_faults old.wires) (o.wires_faults new.wires) (w.wires_fault refl))
  worked_fault shared place n old ended.JournalFault new w t = inr (rose_some (o.journal_faults old.journal) (o.journal_faults new.journal) (w.journal_fault refl))
  worked_fault shared place n old ended.Turns new w t = absurd (false≢true t)
  worked_fault shared place n old ended.Stopped new w t = absurd (false≢true t)
  worked_fault shared place n old ended.Memory new w t = absurd (false≢true t)

  pub ran_fault : (shared : Shared) (n : ℕ) (old new : List (Worker M C OpenGate L)) (ends : List Ended) → WorkedEach o shared n old ends new → ends_status ends ≡ status.WriteFault → OneFailed o new
  ran_fault shared n old new ends each e = by (fault_at ends (by_fault ends e))
    where
      by : FaultAt ends → OneFailed o new
      by f =
          let least = f.least in
          let same = each.same in
          let same_ends = each.each_end in
          let there : f.place < length old = omega (arith, least, same_ends) in
          let d : Ended = some_of ends f.place least in
          record {
            place = f.place;
            least = omega (arith, there, same);
            failed = λ w. worked_fault shared f.place n (slice_index_or old f.place w) (slice_index_or ends f.place d) (slice_index_or new f.place w) (each.each f.place w d there) (f.is d);
          }

  pub ran_paid : (shared : Shared) (n : ℕ) (old new : List (Worker M C OpenGate L)) (ends : List Ended) → WorkedEach o shared n old ends new → All (IsPaid shared.permits) new
  ran_paid shared n old new ends each i w less =
      let same = each.same in
      let same_ends = each.each_end in
      let there : i < length old = omega (arith, less, same) in
      let d : Ended = some_of ends i (omega (arith, there, same_ends)) in
      let k : Worked o shared i n (slice_index_or old i w) (slice_index_or ends i d) (slice_index_or new i w) = each.each i w d there in
      record { seat = k.is_seat; none = k.none }

-- ---- and what came back
-- no connection came before the first event
none_came : (n : ℕ) → CameUpTo n []
none_came n c there = absurd (false≢true there)

module _ {W M C L : Type 0} (bare : M → W) (o : Outside M C L) where
  back_at : (workers : List (Worker M C OpenGate L)) (i : ℕ) (b : W × L) (w : Worker M C OpenGate L) → i < length workers → slice_index_or (map (back_of bare) workers) i b ≡ back_of bare (slice_index_or workers i w)
  back_at workers i b w less = get_or-map (back_of bare) workers i w b less

  idle_unused : (seen : W → Seen) (permits : Permits) (given : List (W × (C × L))) (workers : List (Worker M C OpenGate L)) → EachTwo (IsIdle bare o permits) given workers
      → (i : ℕ) (g : W × (C × L)) (b : W × L) → i < length given → Unused seen o.text (slice_index_or given i g) (slice_index_or (map (back_of bare) workers) i b)
  idle_unused seen permits given workers e i g b less =
      let same = e.same in
      let there : i < length workers = omega (arith, less, same) in
      let w : Worker M C OpenGate L = some_of workers i there in
      let h : IsIdle bare o permits i (slice_index_or given i g) (slice_index_or workers i w) = e.each i g w less in
      let u : Unused seen o.text (slice_index_or given i g) (back_of bare (slice_index_or workers i w)) = record { seen_same = ap seen h.begins.wires; head = h.begins.head } in
      subst (λ (v : W × L). Unused seen o.text (slice_index_or given i g) v) (sym (back_at workers i b w there)) u

  pub none_ran : (seen : W → Seen) (config : Config) (address : List ℕ) (shared : Shared) (a b c : Option (WireTold W C L)) (workers : List (Worker M C OpenGate L)) (out_old out_new : Option (List ℕ)) (end : WireEnd)
      → PoolIdle bare o config address shared a b workers out_old out_new end → TellsReturned b (reverse (numbered 1 (map (back_of bare) workers))) c → NoneRan seen o.text config address a c out_old out_new (wire_status end)
  none_ran seen config address shared a b c workers out_old out_new end pool returned = record {
    given = pool.some.given;
    back = map (back_of bare) workers;
    wired = workers_tell a b c pool.some.given (map (back_of bare) workers) pool.some.tells returned;
    most = pool.some.most;
    each_back = length-map workers (back_of bare) ∙ pool.some.idle.same;
    each = idle_unused seen shared.permits pool.some.given workers pool.some.idle;
    line = pool.line;
    cut = pool.cut;
  }

  all_each : (config : Config) (shared : Shared) (n : ℕ) (given : List (W × (C × L))) (first last : List (Worker M C OpenGate L)) (ends : List Ended) → EachTwo (IsHired bare o config shared) given first → WorkedEach o shared n first ends last
      → (i : ℕ) (g : W × (C × L)) (e : Ended) (b : W × L) → i < length given → WorkerRan bare o config shared i n (slice_index_or given i g) (slice_index_or ends i e) (slice_index_or (map (back_of bare) last) i b)
  all_each config shared n given first last ends hired each i g e b less =
      let same = hired.same in
      let same_last = each.same in
      let there : i < length first = omega (arith, less, same) in
      let there_last : i < length last = omega (arith, there, same_last) in
      let w : Worker M C OpenGate L = some_of first i there in
      let h : IsHired bare o config shared i (slice_index_or given i g) (slice_index_or first i w) = hired.each i g w less in
      let back = back_at last i b w there_last in
      let worked : Worked o shared i n (slice_index_or first i w) (slice_index_or ends i e) (slice_index_or last i w) = each.each i w e there in
      record {
        first = slice_index_or first i w;
        last = slice_index_or last i w;
        begins = h.begins;
        new = h.new;
        worked = worked;
        tape = λ notes hands.
            let told : Hands (o.told (slice_index_or first i w).journal) (o.told (slice_index_or last i w).journal) notes = (hands.0, h.begins.told ∙ hands.1, ap (λ (v : W × L). o.told v.1) (sym back) ∙ hands.2) in
            worked.octets.goes notes [] told h.stands (none_came (o.seen (slice_index_or first i w).wires).greatest);
        wires = ap (λ (v : W × L). v.0) back;
        journal = ap (λ (v : W × L). v.1) back;
      }

  pub all_ran : (config : Config) (n : ℕ) (address : List ℕ) (shared : Shared) (a b c : Option (WireTold W C L)) (workers : List (Worker M C OpenGate L)) (out_old out_new : Option (List ℕ)) (end : WireEnd)
      → PoolRan bare o config n address shared a b workers out_old out_new end → TellsReturned b (reverse (numbered 1 (map (back_of bare) workers))) c → AllRan bare o config n address a c out_old out_new (wire_status end)
  all_ran config n address shared a b c workers out_old out_new end pool returned = record {
    given = pool.given;
    ends = pool.works.ends;
    back = map (back_of bare) workers;
    wired = workers_tell a b c pool.given (map (back_of bare) workers) pool.tells returned;
    line = pool.works.line;
    ran = record {
      shared = shared;
      names = pool.shares.names;
      permits = pool.shares.permits;
      workers = pool.count;
      each_end = pool.works.worked.each_end ∙ pool.hired.same;
      each_back = length-map workers (back_of bare) ∙ pool.works.worked.same ∙ pool.hired.same;
      each = all_each config shared n pool.given pool.first workers pool.works.ends pool.hired pool.works.worked;
    };
    status = pool.works.status;
  }

  pub pool_back : (seen : W → Seen) (config : Config) (n : ℕ) (address : List ℕ) (shared : Shared) (a b c : Option (WireTold W C L)) (workers : List (Worker M C OpenGate L)) (out_old out_new : Option (List ℕ)) (end : WireEnd)
      → PoolWorks bare o config n address shared a b workers out_old out_new end → TellsReturned b (reverse (numbered 1 (map (back_of bare) workers))) c
      → NoneRan seen o.text config address a c out_old out_new (wire_status end) ⊎ AllRan bare o config n address a c out_old out_new (wire_status end)
  pool_back seen config n address shared a b c workers out_old out_new end (inl idle) returned = inl (none_ran seen config address shared a b c workers out_old out_new end idle returned)
  pool_back seen config n address shared a b c workers out_old out_new end (inr ran) returned = inr (all_ran config n address shared a b c workers out_old out_new end ran returned)

-- ---- nobody was fitted
module _ {W C L : Type 0} (seen : W → Seen) (text : L → Option (List ℕ)) where
  pub none_begun : (config : Config) (address : List ℕ) (a b : Option (WireTold W C L)) (out out' : Option (List ℕ)) (how : Status) → b ≡ a → out' ≡ out → IsCutShort how → NoneRan seen text config address a b out out' how
  none_begun config address a b out out' how same kept cut = record {
    given = [];
    back = [];
    wired = workers_tell a a b [] [] (fitted_none a a refl) (returned_none a b same);
    most = omega arith;
    each_back = refl;
    each = λ i g w less. absurd (omega (arith, less));
    line = subst (λ (t : Option (List ℕ)). AppendsFront out t (listening_line address)) (sym kept) (front_none out (listening_line address));
    cut = cut;
  }

-- ---- after the workers were hired
module _ {W M C L : Type 0} (bare : M → W) (o : Outside M C L) where
  pub none_hired : (config : Config) (n : ℕ) (address : List ℕ) (shared : Shared) (a b : Option (WireTold W C L)) (workers : List (Worker M C OpenGate L)) (out out' : Option (List ℕ)) (end : WireEnd) → HiresSome bare o config shared.permits a b workers → out' ≡ out → IsCutShort (wire_status end)
      → PoolWorks bare o config n address shared a b workers out out' end
  none_hired config n address shared a b workers out out' end some same cut =
      inl (record { some = some; line = subst (λ (t : Option (List ℕ)). AppendsFront out t (listening_line address)) (sym same) (front_none out (listening_line address)); cut = cut })

  pub pool_idle_or_ran : (config : Config) (n : ℕ) (address : List ℕ) (pool : Pool M C L) (a b c : Option (WireTold W C L)) (last : List (Worker M C OpenGate L)) (out out' : Option (List ℕ)) (end : WireEnd) → HiresAll bare o config a b pool → c ≡ b
      → WorksAll o pool.shared n address pool.workers.items last out out' end → PoolWorks bare o config n address pool.shared a c last out out' end
  pool_idle_or_ran config n address pool a b c last out out' end all same (inl none) =
      let some : HiresSome bare o config pool.shared.permits a b pool.workers.items = all_some bare o config pool a b all in
      let there : HiresSome bare o config pool.shared.permits a b last = subst (λ (ws : List (Worker M C OpenGate L)). HiresSome bare o config pool.shared.permits a b ws) (sym none.same) some in
      inl (record { some = subst (λ (t : Option (WireTold W C L)). HiresSome bare o config pool.shared.permits a t last) (sym same) there; line = none.line; cut = none.cut })
  pool_idle_or_ran config n address pool a b c last out out' end all same (inr each) =
      inr (record {
        given = all.given;
        first = pool.workers.items;
        count = all.count;
        shares = all.pool_is.shares;
        hired = all.pool_is.workers;
        tells = subst (λ (t : Option (WireTold W C L)). TellsFitted a (numbered 1 all.given) t) (sym same) all.tells;
        works = each;
      })

  pub works_paid : (config : Config) (n : ℕ) (address : List ℕ) (shared : Shared) (a b : Option (WireTold W C L)) (workers : List (Worker M C OpenGate L)) (out out' : Option (List ℕ)) (end : WireEnd) → PoolWorks bare o config n address shared a b workers out out' end → All (IsPaid shared.permits) workers
  works_paid config n address shared a b workers out out' end (inl idle) = idle_paid bare o shared.permits idle.some.given workers idle.some.idle
  works_paid config n address shared a b workers out out' end (inr ran) = ran_paid o shared n ran.first workers ran.works.ends ran.works.worked

  pub works_few : (config : Config) (n : ℕ) (address : List ℕ) (shared : Shared) (a b : Option (WireTold W C L)) (workers : List (Worker M C OpenGate L)) (out out' : Option (List ℕ)) (end : WireEnd) → PoolWorks bare o config n address shared a b workers out out' end → length workers ≤ config.proxy.workers
  works_few config n address shared a b workers out out' end (inl idle) = let most = idle.some.most in let same = idle.some.idle.same in omega (arith, most, same)
  works_few config n address shared a b workers out out' end (inr ran) = let count = ran.count in let same = ran.hired.same in let last = ran.works.worked.same in omega (arith, count, same, last)

-- ---- the workers that were lent, and how they ended
module _ {M C L : Type 0} (o : Outside M C L) where
  pub works_none : (shared : Shared) (n : ℕ) (address : List ℕ) (old new : List (Worker M C OpenGate L)) (out out' : Option (List ℕ)) (end : WireEnd) → new ≡ old → AppendsFront out out' (listening_line address) → IsCutShort (wire_status end) → WorksAll o shared n address old new out out' end
  works_none shared n address old new out out' end same line cut = inl (record { same = same; line = line; cut = cut })

-- by what their run answered
module _ {M C L Z E : Type 0} (o : Outside M C L) where
  pub works_by : (shared : Shared) (n : ℕ) (address : List ℕ) (old new : List (Worker M C OpenGate L)) (r : Result (Vec Ended Z) E) (out out' : Option (List ℕ)) (end : WireEnd) → Appends out out' (listening_line address)
      → IfOk r (λ ends. WorkedEach o shared n old ends.items new) → OnErr r (new ≡ old) → MatchResult r (λ ends. EndsSo (wire_status end) ends.items) (λ e. wire_status end ≡ status.Memory) → WorksAll o shared n address old new out out' end
  works_by shared n address old new (Ok ends) out out' end line worked same so = inr (record { ends = ends.items; status = so; line = line; worked = worked })
  works_by shared n address old new (Err e) out out' end line worked same so = inl (record { same = same; line = front_of out out' (listening_line address) line; cut = inl so })

  -- a fault is one of the site's rounds, or of one worker
  pub cause_by : (shared : Shared) (n : ℕ) (old new : List (Worker M C OpenGate L)) (r : Result (Vec Ended Z) E) (led : LoopEnd) (how : Status) (a b x y : ℕ) → IfOk r (λ ends. WorkedEach o shared n old ends.items new)
      → MatchResult r (λ ends. how ≡ status.WriteFault → (led ≡ loops.Round) ⊎ (ends_status ends.items ≡ status.WriteFault)) (λ e. how ≡ status.Memory) → (led ≡ loops.Round → Rose a b) → how ≡ status.WriteFault → (Rose a b ⊎ Rose x y) ⊎ OneFailed o new
  cause_by shared n old new (Err e) led how a b x y worked memory failed f = absurd (let i : status.Memory ≡ status.WriteFault = sym memory ∙ f in cc)
  cause_by shared n old new (Ok ends) led how a b x y worked cause failed f = by (cause f)
    where
      by : (led ≡ loops.Round) ⊎ (ends_status ends.items ≡ status.WriteFault) → (Rose a b ⊎ Rose x y) ⊎ OneFailed o new
      by (inl round) = inl (inl (failed round))
      by (inr fault) = inr (ran_fault o shared n old new ends.items worked fault)

-- ---- how many they are
module _ {X Z : Type 0} where
  pub len_few : (v : Vec X Z) (n : ℕ) → length v.items ≤ n → v.len ≤ n
  len_few v n few = let l = v.ok.0 in omega (arith, l, few)

  pub len_none : (v : Vec X Z) → v.items ≡ [] → v.len ≡ 0
  len_none v none = let l = v.ok.0 in let k : length v.items ≡ 0 = ap (λ (xs : List X). length xs) none in omega (arith, l, k)

-- ---- workers that were lent out of the pool
module _ {M C L : Type 0} (o : Outside M C L) where
  works_same : (shared : Shared) (n : ℕ) (address : List ℕ) (old new : List (Worker M C OpenGate L)) (out out' : Option (List ℕ)) (end : WireEnd) → WorksAll o shared n address old new out out' end → length new ≡ length old
  works_same shared n address old new out out' end (inl none) = ap (λ (ws : List (Worker M C OpenGate L)). length ws) none.same
  works_same shared n address old new out out' end (inr each) = each.worked.same

  -- they lie where they were lent from
  pub lent_back : {Z : Type 0} (v : Vec (Worker M C OpenGate L) Z) (shared : Shared) (n : ℕ) (address : List ℕ) (first mid : List (Worker M C OpenGate L)) (out out' : Option (List ℕ)) (end : WireEnd) → length first ≡ v.len → WorksAll o shared n address first mid out out' end → (with_items v mid).items ≡ mid
  lent_back v shared n address first mid out out' end len works = with_items_is v mid (works_same shared n address first mid out out' end works ∙ len)

  -- and a fault of one is one there, and one of the site one since before
  pub cause_back : (how : Status) (a b c x y : ℕ) (last mid : List (Worker M C OpenGate L)) → a ≤ b → last ≡ mid → (how ≡ status.WriteFault → (Rose b c ⊎ Rose x y) ⊎ OneFailed o mid) → how ≡ status.WriteFault → (Rose a c ⊎ Rose x y) ⊎ OneFailed o last
  cause_back how a b c x y last mid le e cause f = by (cause f)
    where
      by : (Rose b c ⊎ Rose x y) ⊎ OneFailed o mid → (Rose a c ⊎ Rose x y) ⊎ OneFailed o last
      by (inl (inl site)) = inl (inl (rose_before a b c le site))
      by (inl (inr out)) = inl (inr out)
      by (inr one) = inr (subst (λ (ws : List (Worker M C OpenGate L)). OneFailed o ws) (sym e) one)

module _ {W M C L : Type 0} (bare : M → W) (o : Outside M C L) where
  pub lent_ready : (config : Config) (pool : Pool M C L) (a b : Option (WireTold W C L)) (first : List (Worker M C OpenGate L)) → HiresAll bare o config a b pool → first ≡ pool.workers.items → (i : ℕ) (w : Worker M C OpenGate L) → i < length first → IsReady o pool.shared i (slice_index_or first i w)
  lent_ready config pool a b first all is =
      subst (λ (ws : List (Worker M C OpenGate L)). (i : ℕ) (w : Worker M C OpenGate L) → i < length ws → IsReady o pool.shared i (slice_index_or ws i w)) (sym is) (pool_ready bare o config pool all.given all.pool_is)

  pub lent_works : (config : Config) (n : ℕ) (address : List ℕ) (pool : Pool M C L) (a b c : Option (WireTold W C L)) (first mid last : List (Worker M C OpenGate L)) (out out' : Option (List ℕ)) (end : WireEnd) → HiresAll bare o config a b pool → c ≡ b → first ≡ pool.workers.items → last ≡ mid
      → WorksAll o pool.shared n address first mid out out' end → PoolWorks bare o config n address pool.shared a c last out out' end
  lent_works config n address pool a b c first mid last out out' end all same is back works =
      let there : WorksAll o pool.shared n address pool.workers.items mid out out' end = subst (λ (ws : List (Worker M C OpenGate L)). WorksAll o pool.shared n address ws mid out out' end) is works in
      subst (λ (ws : List (Worker M C OpenGate L)). PoolWorks bare o config n address pool.shared a c ws out out' end) (sym back) (pool_idle_or_ran bare o config n address pool a b c mid out out' end all same there)

  -- those that were fitted in vain go back
  pub cause_hired : (how : Status) (a b x y : ℕ) (workers : List (Worker M C OpenGate L)) → (how ≡ status.WriteFault → Rose a b ⊎ OneFailed o workers) → how ≡ status.WriteFault → (Rose a b ⊎ Rose x y) ⊎ OneFailed o workers
  cause_hired how a b x y workers cause f = by (cause f)
    where
      by : Rose a b ⊎ OneFailed o workers → (Rose a b ⊎ Rose x y) ⊎ OneFailed o workers
      by (inl rose) = inl (inl rose)
      by (inr one) = inr one

  pub idle_paid_of : (config : Config) (permits : Permits) (a b : Option (WireTold W C L)) (workers : List (Worker M C OpenGate L)) → HiresSome bare o config permits a b workers → All (IsPaid permits) workers
  idle_paid_of config permits a b workers some = idle_paid bare o permits some.given workers some.idle

  pub idle_few : (config : Config) (permits : Permits) (a b : Option (WireTold W C L)) (workers : List (Worker M C OpenGate L)) → HiresSome bare o config permits a b workers → length workers ≤ config.proxy.workers
  idle_few config permits a b workers some = let most = some.most in let same = some.idle.same in omega (arith, most, same)

-- ---- a fault has its cause
pub fault_of_one : {M C L : Type 0} (o : Outside M C L) (how : Status) (a b c x y : ℕ) (workers : List (Worker M C OpenGate L)) → a ≤ b → b ≤ c → (how ≡ status.WriteFault → (Rose a b ⊎ Rose x y) ⊎ OneFailed o workers) → (OneFailed o workers → Rose b c) → SiteOrOut how a c x y
fault_of_one o how a b c x y workers le more cause count e = by (cause e)
  where
    by : (Rose a b ⊎ Rose x y) ⊎ OneFailed o workers → Rose a c ⊎ Rose x y
    by (inl (inl site)) = inl (rose_on a b c le site more)
    by (inl (inr out)) = inr out
    by (inr one) = inl (rose_before a b c le (count one))
