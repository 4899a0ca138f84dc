-- Workers that were fitted, one after another.
use Rattle.post_queue.specs.Clauses.{IsRunnerOf}
use Rattle.post_queue.specs.declared.passes.RunnerPass.{RunnerPass}
use Rattle.post_queue.specs.declared.post_box.PostBox.{PostBox}
use Rattle.proxy_config.specs.declared.config.Cluster.{Cluster}
use Rattle.proxy_config.specs.declared.config.Config.{Config}
use Rattle.proxy_wire.proofs.Telling.{fits_more, fitted_none}
use Rattle.proxy_wire.specs.Pools.{EachTwo, IsPool, IsHired, IsIdle, IsPaid, OneFailed, SharesOf}
use Rattle.proxy_wire.specs.Hires.{Fits, HasParts, HiresAll, HiresNone, HiresOne, HiresSome, IsNext, IsTaken, Joins, SharesMore, Stays}
use Rattle.proxy_site.specs.WireSites.{TellsFitted, WireTold, numbered}
use Rattle.proxy_wire.specs.Working.{Begins}
use Rattle.proxy_wire.specs.declared.pool.Pool.{Pool}
use Rattle.proxy_wire.specs.declared.pool.Parts.{Parts}
use Rattle.session_run.specs.Ends.{AppendsFront}
use Rattle.shared_state.specs.PermitSeats.{IsSeatOf}
use Rattle.shared_state.specs.declared.permits.PermitSeat.{PermitSeat}
use Rattle.shared_state.specs.declared.permits.Permits.{Permits}
use Rattle.std.proofs.Common.{ap, arith, inl, inr, refl, subst, sym, ◌∙◌}
use Rattle.std.proofs.Math.Seq.{get_or-append_seam}
use Rattle.std.proofs.lemmas.Bool.{cases_lt}
use Rattle.std.proofs.lemmas.List.{append-nil, get_or_append_left, length-append, length-map}
use Rattle.std.proofs.lemmas.Option.{slice_get-get_or}
use Rattle.worker_threads.proofs.Readying.{new_ready}
use Rattle.std.specs.Io.KnownBytes.{Appends}
use Rattle.std.specs.List.{All}
use Rattle.std.specs.Prelude.{Err, List, Ok, OnErr, OnOk, Option, Result, Some, [], length, slice_get, slice_index_or, suc, ℕ, ◌+◌, ◌++◌, ◌<◌, ◌∷◌, ◌≡◌, ◌≤◌, ◌⊎◌}
use Rattle.worker_core.specs.Sessions.{IsNew, RestsWire, StandsAt}
use Rattle.worker_core.specs.declared.worker.Core.{Core}
use Rattle.worker_parts.specs.Journals.{header}
use Rattle.worker_ports.specs.declared.ports.OpenGate.{OpenGate}
use Rattle.worker_threads.specs.Starting.{IsReady, IsRunnerAt, Outside}
use Rattle.worker_threads.specs.declared.worker.Shared.{Shared}
use Rattle.worker_threads.specs.declared.worker.Worker.{Worker}

-- ---- lists of two
module _ {A B : Type 0} where
  pub each_none : (P : ℕ → A → B → Type 0) → EachTwo P [] []
  each_none P = record { same = refl; each = λ i a b less. absurd (omega (arith, less)) }

  pub each_mapped : (P Q : ℕ → A → B → Type 0) (xs : List A) (ys : List B) → ((i : ℕ) (a : A) (b : B) → i < length xs → P i a b → Q i a b) → EachTwo P xs ys → EachTwo Q xs ys
  each_mapped P Q xs ys f e = record { same = e.same; each = λ i a b less. f i (slice_index_or xs i a) (slice_index_or ys i b) less (e.each i a b less) }

module _ {A : Type 0} where
  at_old : (xs : List A) (x d : A) (i : ℕ) → i < length xs → slice_index_or (xs ++ x ∷ []) i d ≡ slice_index_or xs i d
  at_old xs x d i less = get_or_append_left xs (x ∷ []) d i less

  at_new : (xs : List A) (x d : A) (i : ℕ) → i ≡ length xs → slice_index_or (xs ++ x ∷ []) i d ≡ x
  at_new xs x d i e = ap (λ (k : ℕ). slice_index_or (xs ++ x ∷ []) k d) e ∙ get_or-append_seam xs x [] d

-- one more of each
module _ {A B : Type 0} where
  pub each_more : (P : ℕ → A → B → Type 0) (xs : List A) (ys : List B) (x : A) (y : B) → EachTwo P xs ys → P (length xs) x y → EachTwo P (xs ++ x ∷ []) (ys ++ y ∷ [])
  each_more P xs ys x y e p = record { same = lengths; each = λ i a b less. by i a b less (cases_lt i (length xs)) }
    where
      lengths : length (ys ++ y ∷ []) ≡ length (xs ++ x ∷ [])
      lengths = let l = length-append ys (y ∷ []) in let k = length-append xs (x ∷ []) in let s = e.same in omega (arith, l, k, s)

      by : (i : ℕ) (a : A) (b : B) → i < length (xs ++ x ∷ []) → (i < length xs) ⊎ (length xs ≤ i) → P i (slice_index_or (xs ++ x ∷ []) i a) (slice_index_or (ys ++ y ∷ []) i b)
      by i a b less (inl old) =
          let s = e.same in
          let p0 : P i (slice_index_or xs i a) (slice_index_or (ys ++ y ∷ []) i b) = subst (λ (z : B). P i (slice_index_or xs i a) z) (sym (at_old {A = B} ys y b i (omega (arith, old, s)))) (e.each i a b old) in
          subst (λ (z : A). P i z (slice_index_or (ys ++ y ∷ []) i b)) (sym (at_old {A = A} xs x a i old)) p0
      by i a b less (inr new) =
          let k = length-append xs (x ∷ []) in
          let s = e.same in
          let is : i ≡ length xs = omega (arith, new, less, k) in
          let p0 : P i x y = subst (λ (j : ℕ). P j x y) (sym is) p in
          let p1 : P i x (slice_index_or (ys ++ y ∷ []) i b) = subst (λ (z : B). P i x z) (sym (at_new {A = B} ys y b i (omega (arith, is, s)))) p0 in
          subst (λ (z : A). P i z (slice_index_or (ys ++ y ∷ []) i b)) (sym (at_new {A = A} xs x a i is)) p1

same_box : (b d : PostBox) → ◌≡◌ {A = Option PostBox} (Some b) (Some d) → b ≡ d
same_box b d e = cc

-- any one of some
pub some_of : {A : Type 0} (xs : List A) (i : ℕ) → i < length xs → A
some_of [] i less = absurd (omega (arith, less))
some_of (a ∷ xs) i less = a

-- ---- boxes
got_left : {A : Type 0} (xs ys zs : List A) (i : ℕ) → zs ≡ xs ++ ys → i < length xs → slice_get zs i ≡ slice_get xs i
got_left xs ys zs i e less =
    let d = some_of xs i less in
    let l = length-append xs ys in
    let there : i < length (xs ++ ys) = omega (arith, less, l) in
    ap (λ (v : List _). slice_get v i) e ∙ slice_get-get_or (xs ++ ys) i d there ∙ ap (λ (v : _). Some v) (get_or_append_left xs ys d i less) ∙ sym (slice_get-get_or xs i d less)

runner_kept : (old new : Shared) (i : ℕ) (pass : RunnerPass) → SharesMore old new → i < length old.posts.items → IsRunnerAt old i pass → IsRunnerAt new i pass
runner_kept old new i pass more less at box is = at box (sym (got_left old.posts.items more.more new.posts.items i more.boxes less) ∙ is)

pub front_of : (a b : Option (List ℕ)) (text : List ℕ) → Appends a b text → AppendsFront a b text
front_of a b text p = record { front = text; rest = []; is = sym (append-nil text); appends = p }

module _ {W M C L : Type 0} (bare : M → W) (o : Outside M C L) where
  pub begins_front : (given : W × (C × L)) (w : Worker M C OpenGate L) → Begins bare o Appends given w → Begins bare o AppendsFront given w
  begins_front given w b = record { wires = b.wires; clock = b.clock; head = front_of (o.text given.1.1) (o.text w.journal) header b.head; told = b.told; core = b.core; none = b.none }

  hired_kept : (config : Config) (old new : Shared) (i : ℕ) (g : W × (C × L)) (w : Worker M C OpenGate L) → SharesMore old new → i < length old.posts.items → IsHired bare o config old i g w → IsHired bare o config new i g w
  hired_kept config old new i g w more less h = record {
    begins = h.begins;
    seat = subst (λ (p : Permits). IsSeatOf p w.seat) (sym more.permits) h.seat;
    pass = runner_kept old new i w.pass more less h.pass;
    clusters = h.clusters ∙ ap length (sym more.names);
    new = h.new;
    stands = h.stands;
  }

  hired_idle : (config : Config) (shared : Shared) (permits : Permits) (i : ℕ) (g : W × (C × L)) (w : Worker M C OpenGate L) → permits ≡ shared.permits → IsHired bare o config shared i g w → IsIdle bare o permits i g w
  hired_idle config shared permits i g w e h = record { begins = begins_front g w h.begins; seat = subst (λ (p : Permits). IsSeatOf p w.seat) (sym e) h.seat }

  pub pool_none : (config : Config) (pool : Pool M C L) → SharesOf config pool.shared → length pool.workers.items ≡ 0 → length pool.shared.posts.items ≡ 0 → IsPool bare o config pool []
  pool_none config pool shares no_worker no_box = record { shares = shares; boxes = no_box; workers = record { same = no_worker; each = λ i a b less. absurd (omega (arith, less)) } }

  pub pool_more : (config : Config) (old new : Pool M C L) (given : List (W × (C × L))) (told_a told_b : Option (WireTold W C L)) (one : HiresOne bare o config told_a told_b old new) → SharesMore old.shared new.shared → IsPool bare o config old given
      → IsPool bare o config new (given ++ one.given ∷ [])
  pool_more config old new given told_a told_b one more pool = record {
    shares = record { permits = ap (λ (p : Permits). p.max) more.permits ∙ pool.shares.permits; names = more.names ∙ pool.shares.names };
    boxes =
        let l = length-append old.shared.posts.items (one.box ∷ []) in
        let k = length-append given (one.given ∷ []) in
        let b = pool.boxes in
        let is = ap length one.boxes in
        omega (arith, l, k, b, is);
    workers =
        let kept : EachTwo (IsHired bare o config new.shared) given old.workers.items = each_mapped (IsHired bare o config old.shared) (IsHired bare o config new.shared) given old.workers.items (λ i g w less h. hired_kept config old.shared new.shared i g w more (let b = pool.boxes in omega (arith, less, b)) h) pool.workers in
        let at : IsHired bare o config new.shared (length given) one.given one.worker = subst (λ (k : ℕ). IsHired bare o config new.shared k one.given one.worker) pool.workers.same one.hired in
        subst (λ (ws : List (Worker M C OpenGate L)). EachTwo (IsHired bare o config new.shared) (given ++ one.given ∷ []) ws) (sym one.adds) (each_more (IsHired bare o config new.shared) given old.workers.items one.given one.worker kept at);
  }

  pub pool_idle : (config : Config) (pool : Pool M C L) (permits : Permits) (given : List (W × (C × L))) → permits ≡ pool.shared.permits → IsPool bare o config pool given → EachTwo (IsIdle bare o permits) given pool.workers.items
  pool_idle config pool permits given e c = each_mapped (IsHired bare o config pool.shared) (IsIdle bare o permits) given pool.workers.items (λ i g w less h. hired_idle config pool.shared permits i g w e h) c.workers

  -- all that were fitted go back where the next one can't run
  pub hires_some : (config : Config) (old : Pool M C L) (permits : Permits) (new : List (Worker M C OpenGate L)) (given : List (W × (C × L))) (a b c : Option (WireTold W C L)) → permits ≡ old.shared.permits → IsPool bare o config old given → suc (length given) ≤ config.proxy.workers
      → TellsFitted a (numbered 1 given) b → HiresNone bare o old.shared.permits b c old.workers.items new → HiresSome bare o config permits a c new
  hires_some config old permits new given a b c e pool room tells (inl stays) = record {
    given = given;
    most = omega (arith, room);
    idle = subst (λ (ws : List (Worker M C OpenGate L)). EachTwo (IsIdle bare o permits) given ws) (sym stays.same) (pool_idle config old permits given e pool);
    tells = subst (λ (t : Option (WireTold W C L)). TellsFitted a (numbered 1 given) t) (sym stays.told) tells;
  }
  hires_some config old permits new given a b c e pool room tells (inr one) = record {
    given = given ++ one.given ∷ [];
    most = let l = length-append given (one.given ∷ []) in omega (arith, room, l);
    idle =
        let at : IsIdle bare o permits (length given) one.given one.worker = record { begins = one.idle.begins; seat = subst (λ (p : Permits). IsSeatOf p one.worker.seat) (sym e) one.idle.seat } in
        subst (λ (ws : List (Worker M C OpenGate L)). EachTwo (IsIdle bare o permits) (given ++ one.given ∷ []) ws) (sym one.adds)
        (each_more (IsIdle bare o permits) given old.workers.items one.given one.worker (pool_idle config old permits given e pool) at);
    tells = fits_more a b c given one.given (length old.workers.items) pool.workers.same tells one.tells;
  }

  -- all were fitted
  pub all_some : (config : Config) (pool : Pool M C L) (a b : Option (WireTold W C L)) → HiresAll bare o config a b pool → HiresSome bare o config pool.shared.permits a b pool.workers.items
  all_some config pool a b h = record { given = h.given; most = let c = h.count in omega (arith, c); idle = pool_idle config pool pool.shared.permits h.given refl h.pool_is; tells = h.tells }

  -- ---- what each needs
  pub pool_ready : (config : Config) (pool : Pool M C L) (given : List (W × (C × L))) → IsPool bare o config pool given → (i : ℕ) (w : Worker M C OpenGate L) → i < length pool.workers.items → IsReady o pool.shared i (slice_index_or pool.workers.items i w)
  pool_ready config pool given c i w less =
      let same = c.workers.same in
      let there : i < length given = omega (arith, less, same) in
      let h : IsHired bare o config pool.shared i (slice_index_or given i (some_of given i there)) (slice_index_or pool.workers.items i w) = c.workers.each i (some_of given i there) w there in
      let boxed : i < length pool.shared.posts.items = let b = c.boxes in omega (arith, there, b) in
      let box : PostBox = slice_index_or pool.shared.posts.items i (some_of pool.shared.posts.items i boxed) in
      let at : slice_get pool.shared.posts.items i ≡ Some box = slice_get-get_or pool.shared.posts.items i (some_of pool.shared.posts.items i boxed) boxed in
      new_ready o pool.shared i box (slice_index_or pool.workers.items i w) at (record { core = h.begins.core; seat = h.seat; held = h.begins.none; pass = h.pass box at; names_are = h.clusters })

  pub idle_paid : (permits : Permits) (given : List (W × (C × L))) (workers : List (Worker M C OpenGate L)) → EachTwo (IsIdle bare o permits) given workers → All (IsPaid permits) workers
  idle_paid permits given workers e i w less =
      let same = e.same in
      let there : i < length given = omega (arith, less, same) in
      let h : IsIdle bare o permits i (slice_index_or given i (some_of given i there)) (slice_index_or workers i w) = e.each i (some_of given i there) w there in
      record { seat = h.seat; none = h.begins.none }

-- ---- as far as the loop has come
module _ {W M C L : Type 0} (bare : M → W) (o : Outside M C L) where
  pub record HiredSoFar (config : Config) (n : ℕ) (a b : Option (WireTold W C L)) (pool : Pool M C L) : Type 0 where
    pub given : List (W × (C × L))
    pub count : length given ≡ n
    pub pool_is : IsPool bare o config pool given
    pub tells : TellsFitted a (numbered 1 given) b

  pub so_none : (config : Config) (a : Option (WireTold W C L)) (pool : Pool M C L) → SharesOf config pool.shared → length pool.workers.items ≡ 0 → length pool.shared.posts.items ≡ 0 → HiredSoFar config 0 a a pool
  so_none config a pool shares no_worker no_box = record { given = []; count = refl; pool_is = pool_none bare o config pool shares no_worker no_box; tells = fitted_none a a refl }

  pub so_more : (config : Config) (n : ℕ) (a b c : Option (WireTold W C L)) (old new : Pool M C L) → HiredSoFar config n a b old → HiresOne bare o config b c old new → SharesMore old.shared new.shared → HiredSoFar config (n + 1) a c new
  so_more config n a b c old new so one more = record {
    given = so.given ++ one.given ∷ [];
    count = let l = length-append so.given (one.given ∷ []) in let k = so.count in omega (arith, l, k);
    pool_is = pool_more bare o config old new so.given b c one more so.pool_is;
    tells = fits_more a b c so.given one.given (length old.workers.items) so.pool_is.workers.same so.tells one.tells;
  }

  pub so_all : (config : Config) (n : ℕ) (a b : Option (WireTold W C L)) (pool : Pool M C L) → n ≡ config.proxy.workers → HiredSoFar config n a b pool → HiresAll bare o config a b pool
  so_all config n a b pool e so = record { given = so.given; count = so.count ∙ e; pool_is = so.pool_is; tells = so.tells }

  pub so_some : (config : Config) (n : ℕ) (permits : Permits) (a b c : Option (WireTold W C L)) (old : Pool M C L) (new : List (Worker M C OpenGate L)) → n < config.proxy.workers → permits ≡ old.shared.permits → HiredSoFar config n a b old → HiresNone bare o old.shared.permits b c old.workers.items new
      → HiresSome bare o config permits a c new
  so_some config n permits a b c old new less e so none = hires_some bare o config old permits new so.given a b c e so.pool_is (let k = so.count in omega (arith, less, k)) so.tells none

-- ---- a worker that has failed
module _ {M C L : Type 0} (o : Outside M C L) where
  -- the worker that stands last has failed
  pub last_failed : (old new : List (Worker M C OpenGate L)) (w : Worker M C OpenGate L) → new ≡ old ++ w ∷ [] → (0 < o.wires_faults w.wires) ⊎ (0 < o.journal_faults w.journal) → OneFailed o new
  last_failed old new w e f = record {
    place = length old;
    least = let l = length-append old (w ∷ []) in let s = ap length e in omega (arith, l, s);
    failed = λ d.
        let at : slice_index_or new (length old) d ≡ w = ap (λ (xs : List (Worker M C OpenGate L)). slice_index_or xs (length old) d) e ∙ get_or-append_seam old w [] d in
        subst (λ (v : Worker M C OpenGate L). (0 < o.wires_faults v.wires) ⊎ (0 < o.journal_faults v.journal)) (sym at) f;
  }

-- ---- one worker
module _ {W M C L : Type 0} (bare : M → W) (o : Outside M C L) where
  -- as its connections stand before they are known as the site's
  pub begins_bare : (Writes : Option (List ℕ) → Option (List ℕ) → List ℕ → Type 0) (wires : M) (given : W × (C × L)) (w : Worker M C OpenGate L) → bare wires ≡ given.0 → Begins (λ (m : M). m) o Writes (wires, given.1) w → Begins bare o Writes given w
  begins_bare Writes wires given w e b = record { wires = ap bare b.wires ∙ e; clock = b.clock; head = b.head; told = b.told; core = b.core; none = b.none }

  pub joins_fits : (Writes : Option (List ℕ) → Option (List ℕ) → List ℕ → Type 0) (clusters n : ℕ) (parts : Parts) (pass : RunnerPass) (a b : Option (WireTold W C L)) (wires : M) (given : W × (C × L)) (old new : List (Worker M C OpenGate L)) → bare wires ≡ given.0
      → (o.seen wires).clusters ≡ clusters → n ≡ suc (length old) → TellsFitted a ((n, given) ∷ []) b → Joins (λ (m : M). m) o Writes parts pass (wires, given.1) old new → Fits bare o Writes clusters parts pass a b old new
  joins_fits Writes clusters n parts pass a b wires given old new e c len tells j = record {
    given = given;
    joins = record { worker = j.worker; adds = j.adds; begins = begins_bare Writes wires given j.worker e j.begins; core = j.core; seat = j.seat; pass_is = j.pass_is };
    clusters_are = ap (λ (m : M). (o.seen m).clusters) j.begins.wires ∙ c;
    tells = subst (λ (k : ℕ). TellsFitted a ((k, given) ∷ []) b) len tells;
  }

  -- one that was fitted behind its box may run
  pub fits_one : (config : Config) (old new : Pool M C L) (mid : List (Worker M C OpenGate L)) (shared : Shared) (parts : Parts) (pass : RunnerPass) (box : PostBox) (a b : Option (WireTold W C L)) → SharesOf config old.shared → length old.workers.items ≡ length old.shared.posts.items → IsSeatOf old.shared.permits parts.seat
      → IsNew config parts.core.kind → StandsAt parts.core.kind [] → mid ≡ old.workers.items → shared.permits ≡ old.shared.permits → shared.names ≡ old.shared.names → shared.posts.items ≡ old.shared.posts.items ++ box ∷ [] → IsRunnerOf box pass → new.shared ≡ shared
      → Fits bare o Appends (length config.clusters) parts pass a b mid new.workers.items → HiresOne bare o config a b old new
  fits_one config old new mid shared parts pass box a b shares len seat fresh stands same permits names boxes runs kept f = record {
    given = f.given;
    worker = f.joins.worker;
    adds = f.joins.adds ∙ ap (λ (ws : List (Worker M C OpenGate L)). ws ++ f.joins.worker ∷ []) same;
    hired = record {
      begins = f.joins.begins;
      seat = subst (λ (p : Permits). IsSeatOf p f.joins.worker.seat) (sym (ap (λ (s : Shared). s.permits) kept ∙ permits)) (subst (λ (s : PermitSeat). IsSeatOf old.shared.permits s) (sym f.joins.seat) seat);
      pass = pass_at (new.shared.posts.items) (ap (λ (s : Shared). s.posts.items) kept ∙ boxes);
      new = subst (λ (k : Core). IsNew config k.kind) (sym f.joins.core) fresh;
      stands = subst (λ (k : Core). StandsAt k.kind []) (sym f.joins.core) stands;
      clusters = f.clusters_are ∙ sym (length-map config.clusters (λ (c : Cluster). c.name)) ∙ ap length (sym (ap (λ (s : Shared). s.names) kept ∙ names ∙ shares.names));
    };
    box = box;
    boxes = ap (λ (s : Shared). s.posts.items) kept ∙ boxes;
    tells = subst (λ (k : ℕ). TellsFitted a ((suc k, f.given) ∷ []) b) (ap length same) f.tells;
  }
    where
      pass_at : (posts : List PostBox) → posts ≡ old.shared.posts.items ++ box ∷ [] → (d : PostBox) → slice_get posts (length old.workers.items) ≡ Some d → IsRunnerOf d f.joins.worker.pass
      pass_at posts e d at =
          let l = length-append old.shared.posts.items (box ∷ []) in
          let there : length old.workers.items < length (old.shared.posts.items ++ box ∷ []) = omega (arith, l, len) in
          let got : slice_get posts (length old.workers.items) ≡ Some box =
          ap (λ (v : List PostBox). slice_get v (length old.workers.items)) e ∙ slice_get-get_or (old.shared.posts.items ++ box ∷ []) (length old.workers.items) box there
          ∙ ap (λ (k : ℕ). Some (slice_index_or (old.shared.posts.items ++ box ∷ []) k box)) len ∙ ap (λ (v : PostBox). Some v) (get_or-append_seam old.shared.posts.items box [] box) in
          let is : box ≡ d = same_box box d (sym got ∙ at) in
          subst (λ (v : PostBox). IsRunnerOf v f.joins.worker.pass) is (subst (λ (p : RunnerPass). IsRunnerOf box p) (sym f.joins.pass_is) runs)

  -- and one that can't goes back
  pub fits_idle : (old : Pool M C L) (new : List (Worker M C OpenGate L)) (parts : Parts) (pass : RunnerPass) (clusters : ℕ) (a b : Option (WireTold W C L)) → IsSeatOf old.shared.permits parts.seat
      → Stays bare o a b old.workers.items new ⊎ Fits bare o AppendsFront clusters parts pass a b old.workers.items new → HiresNone bare o old.shared.permits a b old.workers.items new
  fits_idle old new parts pass clusters a b seat (inl stays) = inl stays
  fits_idle old new parts pass clusters a b seat (inr f) = inr (record {
    given = f.given;
    worker = f.joins.worker;
    adds = f.joins.adds;
    idle = record { begins = f.joins.begins; seat = subst (λ (s : PermitSeat). IsSeatOf old.shared.permits s) (sym f.joins.seat) seat };
    tells = f.tells;
  })

-- ---- what the next worker is made of
some_same : (a b : Parts) → ◌≡◌ {A = Option Parts} (Some a) (Some b) → a ≡ b
some_same a b e = cc

pub next_made : (config : Config) (permits : Permits) (pass : RunnerPass) (next : Option Parts) (parts : Parts) → next ≡ Some parts → IsSeatOf permits parts.seat → RestsWire parts.core.kind → IsNew config parts.core.kind → StandsAt parts.core.kind [] → parts.pass ≡ pass → IsNext config permits pass next
next_made config permits pass next parts is seat core new stands pass_is = record { has = record { parts = parts; is = is; core = core }; new = new; stands = stands; seat = seat; pass_is = pass_is }

-- ---- the worker that is pushed
module _ {M C L : Type 0} (o : Outside M C L) where
  joined : (Writes : Option (List ℕ) → Option (List ℕ) → List ℕ → Type 0) (parts : Parts) (wires : M) (clock : C) (journal journal' : L) (old new : List (Worker M C OpenGate L)) (w : Worker M C OpenGate L) → new ≡ old ++ w ∷ [] → w.wires ≡ wires → w.clock ≡ clock → w.journal ≡ journal'
      → w.core ≡ parts.core → w.seat ≡ parts.seat → w.pass ≡ parts.pass → w.held ≡ [] → RestsWire parts.core.kind → Writes (o.text journal) (o.text journal') header → o.told journal' ≡ o.told journal → Joins (λ (m : M). m) o Writes parts parts.pass (wires, (clock, journal)) old new
  joined Writes parts wires clock journal journal' old new w adds ew ec ej eco es ep none rests head told = record {
    worker = w;
    adds = adds;
    begins = record {
      wires = ew;
      clock = ec;
      head = subst (λ (j : L). Writes (o.text journal) (o.text j) header) (sym ej) head;
      told = ap o.told ej ∙ told;
      core = subst (λ (k : Core). RestsWire k.kind) (sym eco) rests;
      none = none;
    };
    core = eco;
    seat = es;
    pass_is = ep;
  }

  -- of the parts that were there
  pub joined_next : (Writes : Option (List ℕ) → Option (List ℕ) → List ℕ → Type 0) (next : Option Parts) (r parts : Parts) (wires : M) (clock : C) (journal journal' : L) (old new : List (Worker M C OpenGate L)) (w : Worker M C OpenGate L) → next ≡ Some parts → IsTaken next r → HasParts next → new ≡ old ++ w ∷ []
      → w.wires ≡ wires → w.clock ≡ clock → w.journal ≡ journal' → w.core ≡ r.core → w.seat ≡ r.seat → w.pass ≡ r.pass → w.held ≡ [] → Writes (o.text journal) (o.text journal') header → o.told journal' ≡ o.told journal → Joins (λ (m : M). m) o Writes parts parts.pass (wires, (clock, journal)) old new
  joined_next Writes next r parts wires clock journal journal' old new w is taken has adds ew ec ej eco es ep none head told =
      let rests : RestsWire r.core.kind = subst (λ (p : Parts). RestsWire p.core.kind) (some_same has.parts r (sym has.is ∙ taken.is)) has.core in
      let j : Joins (λ (m : M). m) o Writes r r.pass (wires, (clock, journal)) old new = joined Writes r wires clock journal journal' old new w adds ew ec ej eco es ep none rests head told in
      subst (λ (p : Parts). Joins (λ (m : M). m) o Writes p p.pass (wires, (clock, journal)) old new) (some_same r parts (sym taken.is ∙ is)) j

pub on_ok : {T E : Type 0} (A B : Type 0) (r : Result T E) → (A → B) → OnOk r A → OnOk r B
on_ok A B (Ok x) f a = f a
on_ok A B (Err e) f a = tt

pub on_err : {T E : Type 0} (A B : Type 0) (r : Result T E) → (A → B) → OnErr r A → OnErr r B
on_err A B (Ok x) f a = tt
on_err A B (Err e) f a = f a

-- ---- where the loop stands
module _ {W M C L : Type 0} (bare : M → W) (o : Outside M C L) where
  pub so_place : (config : Config) (n : ℕ) (a b : Option (WireTold W C L)) (pool : Pool M C L) → HiredSoFar bare o config n a b pool → (n ≡ length pool.workers.items) × (n ≡ length pool.shared.posts.items)
  so_place config n a b pool so = (sym so.count ∙ sym so.pool_is.workers.same, sym so.count ∙ sym so.pool_is.boxes)

  pub so_shares : (config : Config) (n : ℕ) (a b : Option (WireTold W C L)) (pool : Pool M C L) → HiredSoFar bare o config n a b pool → SharesOf config pool.shared
  so_shares config n a b pool so = so.pool_is.shares

pub err_always : {T E : Type 0} (B : Type 0) (r : Result T E) → B → OnErr r B
err_always B (Ok x) b = tt
err_always B (Err e) b = b
