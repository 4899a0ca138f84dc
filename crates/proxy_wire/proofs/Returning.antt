-- Workers go back, the last one first.
use Rattle.io_ports.specs.Faults.{Rose}
use Rattle.proxy_wire.proofs.Telling.{returned_none, returns_more}
use Rattle.proxy_wire.specs.Pools.{IsBackOf, IsPaid, OneFailed, back_of}
use Rattle.proxy_site.specs.WireSites.{TellsReturned, WireTold, numbered}
use Rattle.proxy_wire.specs.declared.giving_back.Back.{Back}
use Rattle.shared_state.specs.PermitSeats.{IsSeatOf}
use Rattle.shared_state.specs.declared.permits.PermitSeat.{PermitSeat}
use Rattle.shared_state.specs.declared.permits.Permits.{Permits}
use Rattle.std.proofs.Common.{ap, arith, inl, inr, refl, subst, sym, ◌∙◌}
use Rattle.std.proofs.Math.Seq.{get_or-append_seam}
use Rattle.std.proofs.lemmas.Bool.{cases_lt}
use Rattle.std.proofs.lemmas.List.{get_or_append_left, length-append, length-map, map-append}
use Rattle.std.specs.List.{All}
use Rattle.std.specs.Prelude.{List, Option, [], length, map, reverse, slice_index_or, suc, ℕ, ◌++◌, ◌-◌, ◌<◌, ◌^◌, ◌∷◌, ◌≡◌, ◌≤◌, ◌⊎◌}
use Rattle.worker_ports.specs.declared.ports.OpenGate.{OpenGate}
use Rattle.worker_threads.specs.Starting.{Outside}
use Rattle.worker_threads.specs.declared.worker.Worker.{Worker}

-- ---- counts of faults
pub rose_on : (a b c : ℕ) → a ≤ b → Rose a b → b ≤ c → Rose a c
rose_on a b c le (inl less) more = inl (omega (arith, less, more))
rose_on a b c le (inr end) more = by (cases_lt (2 ^ 64 - 1) c)
  where
    by : (2 ^ 64 - 1 < c) ⊎ (c ≤ 2 ^ 64 - 1) → Rose a c
    by (inl above) = inl (omega (arith, le, end, above))
    by (inr at) = inr (omega (arith, end, more, at))

pub rose_before : (a b c : ℕ) → a ≤ b → Rose b c → Rose a c
rose_before a b c le (inl less) = inl (omega (arith, le, less))
rose_before a b c le (inr end) = inr end

module _ {M C L : Type 0} where
  pub paid_front : (permits : Permits) (all xs : List (Worker M C OpenGate L)) (w : Worker M C OpenGate L) → all ≡ xs ++ w ∷ [] → All (IsPaid permits) all → All (IsPaid permits) xs
  paid_front permits all xs w e paid i d less =
      let l = length-append xs (w ∷ []) in
      let s = ap length e in
      let at : slice_index_or all i d ≡ slice_index_or xs i d = ap (λ (v : List (Worker M C OpenGate L)). slice_index_or v i d) e ∙ get_or_append_left xs (w ∷ []) d i less in
      subst (λ (v : Worker M C OpenGate L). IsPaid permits v) at (paid i d (omega (arith, less, l, s)))

  pub paid_last : (permits : Permits) (all xs : List (Worker M C OpenGate L)) (w : Worker M C OpenGate L) → all ≡ xs ++ w ∷ [] → All (IsPaid permits) all → IsPaid permits w
  paid_last permits all xs w e paid =
      let l = length-append xs (w ∷ []) in
      let s = ap length e in
      let at : slice_index_or all (length xs) w ≡ w = ap (λ (v : List (Worker M C OpenGate L)). slice_index_or v (length xs) w) e ∙ get_or-append_seam xs w [] w in
      subst (λ (v : Worker M C OpenGate L). IsPaid permits v) at (paid (length xs) w (omega (arith, l, s)))

module _ {W M C L : Type 0} (bare : M → W) where
  pub returned_step : (a b c : Option (WireTold W C L)) (all xs : List (Worker M C OpenGate L)) (w : Worker M C OpenGate L) (n : ℕ) → all ≡ xs ++ w ∷ [] → n ≡ suc (length xs) → TellsReturned a ((n, back_of bare w) ∷ []) b
      → TellsReturned b (reverse (numbered 1 (map (back_of bare) xs))) c → TellsReturned a (reverse (numbered 1 (map (back_of bare) all))) c
  returned_step a b c all xs w n e len p q =
      returns_more a b c (map (back_of bare) all) (map (back_of bare) xs) (back_of bare w) n (ap (λ (v : List (Worker M C OpenGate L)). map (back_of bare) v) e ∙ map-append (back_of bare) xs (w ∷ [])) (len ∙ ap (λ (k : ℕ). suc k) (sym (length-map xs (back_of bare)))) p q

  pub returned_end : (a : Option (WireTold W C L)) (workers : List (Worker M C OpenGate L)) → length workers ≡ 0 → TellsReturned a (reverse (numbered 1 (map (back_of bare) workers))) a
  returned_end a [] none = returned_none a a refl
  returned_end a (w ∷ ws) none = absurd (omega (arith, none))

module _ {M C L : Type 0} (o : Outside M C L) where
  pub failed_step : (all xs : List (Worker M C OpenGate L)) (w : Worker M C OpenGate L) → all ≡ xs ++ w ∷ [] → OneFailed o all → OneFailed o xs ⊎ ((0 < o.wires_faults w.wires) ⊎ (0 < o.journal_faults w.journal))
  failed_step all xs w e f = by (cases_lt f.place (length xs))
    where
      by : (f.place < length xs) ⊎ (length xs ≤ f.place) → OneFailed o xs ⊎ ((0 < o.wires_faults w.wires) ⊎ (0 < o.journal_faults w.journal))
      by (inl less) =
          inl (record {
            place = f.place;
            least = less;
            failed = λ d.
                let at : slice_index_or all f.place d ≡ slice_index_or xs f.place d = ap (λ (v : List (Worker M C OpenGate L)). slice_index_or v f.place d) e ∙ get_or_append_left xs (w ∷ []) d f.place less in
                subst (λ (v : Worker M C OpenGate L). (0 < o.wires_faults v.wires) ⊎ (0 < o.journal_faults v.journal)) at (f.failed d);
          })
      by (inr above) =
          let l = length-append xs (w ∷ []) in
          let s = ap length e in
          let least = f.least in
          let is : f.place ≡ length xs = omega (arith, above, least, l, s) in
          let at : slice_index_or all f.place w ≡ w = ap (λ (v : List (Worker M C OpenGate L)). slice_index_or v f.place w) e ∙ ap (λ (k : ℕ). slice_index_or (xs ++ w ∷ []) k w) is ∙ get_or-append_seam xs w [] w in
          inr (subst (λ (v : Worker M C OpenGate L). (0 < o.wires_faults v.wires) ⊎ (0 < o.journal_faults v.journal)) at (f.failed w))

  -- one more has gone back
  pub count_step : (a b c : ℕ) (all xs : List (Worker M C OpenGate L)) (w : Worker M C OpenGate L) (first : List (Worker M C OpenGate L)) → all ≡ xs ++ w ∷ [] → a ≤ b → b ≤ c → ((0 < o.wires_faults w.wires) ⊎ (0 < o.journal_faults w.journal) → Rose b c)
      → (OneFailed o first → Rose a b ⊎ OneFailed o all) → OneFailed o first → Rose a c ⊎ OneFailed o xs
  count_step a b c all xs w first e le more rises so f = by (so f)
    where
      last : OneFailed o xs ⊎ ((0 < o.wires_faults w.wires) ⊎ (0 < o.journal_faults w.journal)) → Rose a c ⊎ OneFailed o xs
      last (inl later) = inr later
      last (inr now) = inl (rose_before a b c le (rises now))

      by : Rose a b ⊎ OneFailed o all → Rose a c ⊎ OneFailed o xs
      by (inl rose) = inl (rose_on a b c le rose more)
      by (inr one) = last (failed_step all xs w e one)

  pub none_failed : (xs : List (Worker M C OpenGate L)) → length xs ≡ 0 → OneFailed o xs → ⊥
  none_failed xs none f = let l = f.least in omega (arith, none, l)

-- ---- what goes back of one
pub seat_back : {M C L : Type 0} (permits : Permits) (w : Worker M C OpenGate L) (b : Back M L) → IsBackOf w b → IsPaid permits w → IsSeatOf permits b.seat
seat_back permits w b is paid = subst (λ (s : PermitSeat). IsSeatOf permits s) (sym is.seat) paid.seat

pub none_back : {M C L : Type 0} (permits : Permits) (w : Worker M C OpenGate L) (b : Back M L) → IsBackOf w b → IsPaid permits w → b.held ≡ []
none_back permits w b is paid = is.held ∙ paid.none

pub tells_back : {W M C L : Type 0} (bare : M → W) (w : Worker M C OpenGate L) (b : Back M L) (n : ℕ) (x y : Option (WireTold W C L)) → IsBackOf w b → TellsReturned x ((n, (bare b.wires, b.journal)) ∷ []) y → TellsReturned x ((n, back_of bare w) ∷ []) y
tells_back bare w b n x y is tells =
    let wires : TellsReturned x ((n, (bare w.wires, b.journal)) ∷ []) y = subst (λ (m : _). TellsReturned x ((n, (bare m, b.journal)) ∷ []) y) is.wires tells in
    subst (λ (j : _). TellsReturned x ((n, (bare w.wires, j)) ∷ []) y) is.journal wires

pub counts_back : {M C L : Type 0} (wires_faults : M → ℕ) (journal_faults : L → ℕ) (w : Worker M C OpenGate L) (b : Back M L) (x y : ℕ) → IsBackOf w b → ((0 < wires_faults b.wires) ⊎ (0 < journal_faults b.journal) → Rose x y) → (0 < wires_faults w.wires) ⊎ (0 < journal_faults w.journal) → Rose x y
counts_back wires_faults journal_faults w b x y is count (inl f) = count (inl (subst (λ (m : _). 0 < wires_faults m) (sym is.wires) f))
counts_back wires_faults journal_faults w b x y is count (inr f) = count (inr (subst (λ (j : _). 0 < journal_faults j) (sym is.journal) f))
