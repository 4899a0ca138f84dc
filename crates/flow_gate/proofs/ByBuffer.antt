-- Values by buffer are those of write buffers, receive buffers, stages and send buffers.
use Rattle.flow_gate.proofs.Naming.{lookup-left, lookup-named, lookup-right, named-none, none-append, set-left, set-named, set-right, written_through}
use Rattle.flow_gate.proofs.Orders.{is_at-stage, stage_cmp}
use Rattle.flow_gate.proofs.Places.{eq_by_place}
use Rattle.flow_gate.proofs.SameIds.{same_buffer-comm, same_buffer-refl, same_buffer_exact}
use Rattle.flow_gate.specs.Ids.{same_buffer, same_flow}
use Rattle.flow_gate.specs.Named.{ByFlow, Updates, WritesThrough, all_of, as_buffer, named}
use Rattle.flow_rules.specs.declared.ids.BufferId.{BufferId}
use Rattle.flow_rules.specs.declared.ids.BufferId.TheVariants as buffer
use Rattle.flow_rules.specs.declared.ids.FlowId.{FlowId}
use Rattle.flow_gate.specs.declared.buffers.StageId.{StageId}
use Rattle.std.proofs.Common.{ap, refl, sym, ◌∙◌}
use Rattle.std.proofs.lemmas.Map.{NonePasses}
use Rattle.std.specs.BTreeMap.{is_at}
use Rattle.std.specs.Cmp.{IsEquivalence}
use Rattle.std.specs.Map.{lookup, set_value}
use Rattle.std.specs.Ordering.{nat_cmp}
use Rattle.std.specs.Prelude.{Bool, List, Option, cond, false, ℕ, ◌++◌, ◌≡◌}

pub same_buffer_laws : IsEquivalence same_buffer
same_buffer_laws = record { refl = same_buffer-refl; symm = same_buffer-comm; congr = λ b c d here. ap (λ e. same_buffer e d) (same_buffer_exact b c here) }

at_write : (c d : ℕ) → same_buffer (buffer.Write c) (buffer.Write d) ≡ is_at (nat_cmp c) d
at_write c d = sym (eq_by_place c d)

at_stage : (s t : StageId) → same_buffer (as_buffer s) (as_buffer t) ≡ is_at (stage_cmp s) t
at_stage s t = sym (is_at-stage s t)

-- ---- what is at a buffer
module _ {X : Type 0} where
  -- that part of the four in which the buffer may be
  abbrev pub part_at : BufferId → List (ℕ × X) → ByFlow X → List (StageId × X) → ByFlow X → Option X
  part_at (buffer.Write c) ws rs ss es = lookup (is_at (nat_cmp c)) ws
  part_at (buffer.Recv f) ws rs ss es = lookup (same_flow f) rs
  part_at (buffer.Stage f i) ws rs ss es = lookup (is_at (stage_cmp (record { flow = f; stage = i }))) ss
  part_at (buffer.Send f) ws rs ss es = lookup (same_flow f) es

  module _ (test : BufferId → Bool) where
    no_write : ((c : ℕ) → test (buffer.Write c) ≡ false) → (ws : List (ℕ × X)) → NonePasses test (named buffer.Write ws)
    no_write = named-none buffer.Write test

    no_recv : ((f : FlowId) → test (buffer.Recv f) ≡ false) → (rs : ByFlow X) → NonePasses test (named buffer.Recv rs)
    no_recv = named-none buffer.Recv test

    no_stage : ((s : StageId) → test (as_buffer s) ≡ false) → (ss : List (StageId × X)) → NonePasses test (named as_buffer ss)
    no_stage = named-none as_buffer test

    no_send : ((f : FlowId) → test (buffer.Send f) ≡ false) → (es : ByFlow X) → NonePasses test (named buffer.Send es)
    no_send = named-none buffer.Send test

  pub read : (b : BufferId) (ws : List (ℕ × X)) (rs : ByFlow X) (ss : List (StageId × X)) (es : ByFlow X) → lookup (same_buffer b) (all_of ws rs ss es) ≡ part_at b ws rs ss es
  read (buffer.Write c) ws rs ss es =
      let test : BufferId → Bool = same_buffer (buffer.Write c) in
      lookup-left test (named buffer.Write ws) (named buffer.Recv rs ++ (named as_buffer ss ++ named buffer.Send es))
      (none-append test (named buffer.Recv rs) (named as_buffer ss ++ named buffer.Send es) (no_recv test (λ f. refl) rs)
      (none-append test (named as_buffer ss) (named buffer.Send es) (no_stage test (λ s. refl) ss) (no_send test (λ f. refl) es)))
      ∙ lookup-named buffer.Write test (is_at (nat_cmp c)) (at_write c) ws
  read (buffer.Recv f) ws rs ss es =
      let test : BufferId → Bool = same_buffer (buffer.Recv f) in
      lookup-right test (named buffer.Write ws) (named buffer.Recv rs ++ (named as_buffer ss ++ named buffer.Send es)) (no_write test (λ c. refl) ws)
      ∙ lookup-left test (named buffer.Recv rs) (named as_buffer ss ++ named buffer.Send es)
      (none-append test (named as_buffer ss) (named buffer.Send es) (no_stage test (λ s. refl) ss) (no_send test (λ g. refl) es))
      ∙ lookup-named buffer.Recv test (same_flow f) (λ g. refl) rs
  read (buffer.Stage f i) ws rs ss es =
      let test : BufferId → Bool = same_buffer (buffer.Stage f i) in
      lookup-right test (named buffer.Write ws) (named buffer.Recv rs ++ (named as_buffer ss ++ named buffer.Send es)) (no_write test (λ c. refl) ws)
      ∙ lookup-right test (named buffer.Recv rs) (named as_buffer ss ++ named buffer.Send es) (no_recv test (λ g. refl) rs)
      ∙ lookup-left test (named as_buffer ss) (named buffer.Send es) (no_send test (λ g. refl) es)
      ∙ lookup-named as_buffer test (is_at (stage_cmp (record { flow = f; stage = i }))) (at_stage (record { flow = f; stage = i })) ss
  read (buffer.Send f) ws rs ss es =
      let test : BufferId → Bool = same_buffer (buffer.Send f) in
      lookup-right test (named buffer.Write ws) (named buffer.Recv rs ++ (named as_buffer ss ++ named buffer.Send es)) (no_write test (λ c. refl) ws)
      ∙ lookup-right test (named buffer.Recv rs) (named as_buffer ss ++ named buffer.Send es) (no_recv test (λ g. refl) rs)
      ∙ lookup-right test (named as_buffer ss) (named buffer.Send es) (no_stage test (λ s. refl) ss)
      ∙ lookup-named buffer.Send test (same_flow f) (λ g. refl) es

  -- ---- one part is changed
  -- each part has at each buffer what it had, but for one buffer
  abbrev pub PartsChange : BufferId → Option X → (BufferId → Option X) → (BufferId → Option X) → Type 0
  PartsChange b w old new = (q : BufferId) → new q ≡ cond (same_buffer b q) w (old q)

  module _ (ws : List (ℕ × X)) (rs : ByFlow X) (ss : List (StageId × X)) (es : ByFlow X) (w : Option X) where
    changed : (b : BufferId) (ws' : List (ℕ × X)) (rs' : ByFlow X) (ss' : List (StageId × X)) (es' : ByFlow X) →
        PartsChange b w (λ q. part_at q ws rs ss es) (λ q. part_at q ws' rs' ss' es') → Updates same_buffer b w (all_of ws rs ss es) (all_of ws' rs' ss' es')
    changed b ws' rs' ss' es' change q = read q ws' rs' ss' es' ∙ change q ∙ ap (λ o. cond (same_buffer b q) w o) (sym (read q ws rs ss es))

    pub write_updated : (c : ℕ) (ws' : List (ℕ × X)) → ((q : ℕ) → lookup (is_at (nat_cmp q)) ws' ≡ cond (is_at (nat_cmp c) q) w (lookup (is_at (nat_cmp q)) ws)) →
        Updates same_buffer (buffer.Write c) w (all_of ws rs ss es) (all_of ws' rs ss es)
    write_updated c ws' change = changed (buffer.Write c) ws' rs ss es each
      where
        each : PartsChange (buffer.Write c) w (λ q. part_at q ws rs ss es) (λ q. part_at q ws' rs ss es)
        each (buffer.Write d) = change d ∙ ap (λ t. cond t w (lookup (is_at (nat_cmp d)) ws)) (eq_by_place c d)
        each (buffer.Recv g) = refl
        each (buffer.Stage g i) = refl
        each (buffer.Send g) = refl

    pub recv_updated : (f : FlowId) (rs' : ByFlow X) → Updates same_flow f w rs rs' → Updates same_buffer (buffer.Recv f) w (all_of ws rs ss es) (all_of ws rs' ss es)
    recv_updated f rs' change = changed (buffer.Recv f) ws rs' ss es each
      where
        each : PartsChange (buffer.Recv f) w (λ q. part_at q ws rs ss es) (λ q. part_at q ws rs' ss es)
        each (buffer.Write d) = refl
        each (buffer.Recv g) = change g
        each (buffer.Stage g i) = refl
        each (buffer.Send g) = refl

    pub stage_updated : (f : FlowId) (i : ℕ) (ss' : List (StageId × X)) →
        ((q : StageId) → lookup (is_at (stage_cmp q)) ss' ≡ cond (is_at (stage_cmp (record { flow = f; stage = i })) q) w (lookup (is_at (stage_cmp q)) ss)) →
        Updates same_buffer (buffer.Stage f i) w (all_of ws rs ss es) (all_of ws rs ss' es)
    stage_updated f i ss' change = changed (buffer.Stage f i) ws rs ss' es each
      where
        each : PartsChange (buffer.Stage f i) w (λ q. part_at q ws rs ss es) (λ q. part_at q ws rs ss' es)
        each (buffer.Write d) = refl
        each (buffer.Recv g) = refl
        each (buffer.Stage g j) = change (record { flow = g; stage = j })
            ∙ ap (λ t. cond t w (lookup (is_at (stage_cmp (record { flow = g; stage = j }))) ss)) (is_at-stage (record { flow = f; stage = i }) (record { flow = g; stage = j }))
        each (buffer.Send g) = refl

    pub send_updated : (f : FlowId) (es' : ByFlow X) → Updates same_flow f w es es' → Updates same_buffer (buffer.Send f) w (all_of ws rs ss es) (all_of ws rs ss es')
    send_updated f es' change = changed (buffer.Send f) ws rs ss es' each
      where
        each : PartsChange (buffer.Send f) w (λ q. part_at q ws rs ss es) (λ q. part_at q ws rs ss es')
        each (buffer.Write d) = refl
        each (buffer.Recv g) = refl
        each (buffer.Stage g i) = refl
        each (buffer.Send g) = change g

  -- ---- what is written through a loan
  module _ (ws : List (ℕ × X)) (rs : ByFlow X) (ss : List (StageId × X)) (es : ByFlow X) (w : X) where
    pub write_written : (c : ℕ) (ws' : List (ℕ × X)) → ws' ≡ set_value (is_at (nat_cmp c)) ws w → WritesThrough same_buffer (buffer.Write c) w (all_of ws rs ss es) (all_of ws' rs ss es)
    write_written c ws' is = written_through same_buffer same_buffer_laws (buffer.Write c) w (all_of ws rs ss es) (all_of ws' rs ss es)
        (let test : BufferId → Bool = same_buffer (buffer.Write c) in
        ap (λ zs. all_of zs rs ss es) is
        ∙ sym (set-left test (named buffer.Write ws) (named buffer.Recv rs ++ (named as_buffer ss ++ named buffer.Send es)) w
        (none-append test (named buffer.Recv rs) (named as_buffer ss ++ named buffer.Send es) (no_recv test (λ f. refl) rs)
        (none-append test (named as_buffer ss) (named buffer.Send es) (no_stage test (λ s. refl) ss) (no_send test (λ f. refl) es)))
        ∙ ap (λ zs. zs ++ (named buffer.Recv rs ++ (named as_buffer ss ++ named buffer.Send es))) (set-named buffer.Write test (is_at (nat_cmp c)) (at_write c) ws w)))

    pub recv_written : (f : FlowId) (rs' : ByFlow X) → rs' ≡ set_value (same_flow f) rs w → WritesThrough same_buffer (buffer.Recv f) w (all_of ws rs ss es) (all_of ws rs' ss es)
    recv_written f rs' is = written_through same_buffer same_buffer_laws (buffer.Recv f) w (all_of ws rs ss es) (all_of ws rs' ss es)
        (let test : BufferId → Bool = same_buffer (buffer.Recv f) in
        ap (λ zs. all_of ws zs ss es) is
        ∙ sym (set-right test (named buffer.Write ws) (named buffer.Recv rs ++ (named as_buffer ss ++ named buffer.Send es)) w (no_write test (λ c. refl) ws)
        ∙ ap (λ zs. named buffer.Write ws ++ zs) (set-left test (named buffer.Recv rs) (named as_buffer ss ++ named buffer.Send es) w
        (none-append test (named as_buffer ss) (named buffer.Send es) (no_stage test (λ s. refl) ss) (no_send test (λ g. refl) es))
        ∙ ap (λ zs. zs ++ (named as_buffer ss ++ named buffer.Send es)) (set-named buffer.Recv test (same_flow f) (λ g. refl) rs w))))

    pub stage_written : (f : FlowId) (i : ℕ) (ss' : List (StageId × X)) → ss' ≡ set_value (is_at (stage_cmp (record { flow = f; stage = i }))) ss w →
        WritesThrough same_buffer (buffer.Stage f i) w (all_of ws rs ss es) (all_of ws rs ss' es)
    stage_written f i ss' is = written_through same_buffer same_buffer_laws (buffer.Stage f i) w (all_of ws rs ss es) (all_of ws rs ss' es)
        (let test : BufferId → Bool = same_buffer (buffer.Stage f i) in
        ap (λ zs. all_of ws rs zs es) is
        ∙ sym (set-right test (named buffer.Write ws) (named buffer.Recv rs ++ (named as_buffer ss ++ named buffer.Send es)) w (no_write test (λ c. refl) ws)
        ∙ ap (λ zs. named buffer.Write ws ++ zs) (set-right test (named buffer.Recv rs) (named as_buffer ss ++ named buffer.Send es) w (no_recv test (λ g. refl) rs)
        ∙ ap (λ zs. named buffer.Recv rs ++ zs) (set-left test (named as_buffer ss) (named buffer.Send es) w (no_send test (λ g. refl) es)
        ∙ ap (λ zs. zs ++ named buffer.Send es) (set-named as_buffer test (is_at (stage_cmp (record { flow = f; stage = i }))) (at_stage (record { flow = f; stage = i })) ss w)))))

    pub send_written : (f : FlowId) (es' : ByFlow X) → es' ≡ set_value (same_flow f) es w → WritesThrough same_buffer (buffer.Send f) w (all_of ws rs ss es) (all_of ws rs ss es')
    send_written f es' is = written_through same_buffer same_buffer_laws (buffer.Send f) w (all_of ws rs ss es) (all_of ws rs ss es')
        (let test : BufferId → Bool = same_buffer (buffer.Send f) in
        ap (all_of ws rs ss) is
        ∙ sym (set-right test (named buffer.Write ws) (named buffer.Recv rs ++ (named as_buffer ss ++ named buffer.Send es)) w (no_write test (λ c. refl) ws)
        ∙ ap (λ zs. named buffer.Write ws ++ zs) (set-right test (named buffer.Recv rs) (named as_buffer ss ++ named buffer.Send es) w (no_recv test (λ g. refl) rs)
        ∙ ap (λ zs. named buffer.Recv rs ++ zs) (set-right test (named as_buffer ss) (named buffer.Send es) w (no_stage test (λ s. refl) ss)
        ∙ ap (λ zs. named as_buffer ss ++ zs) (set-named buffer.Send test (same_flow f) (λ g. refl) es w)))))
