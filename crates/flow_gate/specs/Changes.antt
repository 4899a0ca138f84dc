-- What each call changes: one line for each thing that is seen of the gates.
use Rattle.flow_gate.specs.Board.{Board, count, is_known, is_marked, is_open, pending_on, times, watched_by, watchers_of}
use Rattle.flow_gate.specs.Ids.{is_own, same_buffer, same_flow}
use Rattle.flow_rules.specs.declared.ids.BufferId.{BufferId}
use Rattle.flow_rules.specs.declared.ids.FlowId.{FlowId}
use Rattle.flow_rules.specs.declared.ids.BufferId.TheVariants as buffer
use Rattle.std.specs.Prelude.{Bool, List, [], false, filter, if◌then◌else◌, length, not, ℕ, ◌&&◌, ◌++◌, ◌+◌, ◌==◌, ◌||◌, ◌∷◌, ◌≡◌}

-- it is seen as before, of each flow or buffer
abbrev pub Same : {K X : Type 0} → (Board → K → X) → Board → Board → Type 0
Same {K} seen old new = (k : K) → seen new k ≡ seen old k

-- no flow is there, and no buffer is known
pub record IsEmpty (board : Board) : Type 0 where
  pub flows : (f : FlowId) → is_open board f ≡ false
  pub counts : (f : FlowId) → count board f ≡ 0
  pub watched : (f : FlowId) → watched_by board f ≡ []
  pub buffers : (b : BufferId) → is_known board b ≡ false
  pub marks : (b : BufferId) → is_marked board b ≡ false
  pub watchers : (b : BufferId) → watchers_of board b ≡ []
  pub pending : (b : BufferId) → pending_on board b ≡ []

-- the flow is there, and watches nothing
pub record Begins (f : FlowId) (old new : Board) : Type 0 where
  pub flows : (g : FlowId) → is_open new g ≡ (same_flow f g || is_open old g)
  pub counts : Same count old new
  pub watched : Same watched_by old new
  pub buffers : Same is_known old new
  pub marks : Same is_marked old new
  pub watchers : Same watchers_of old new
  pub pending : Same pending_on old new

-- nothing is seen to have changed
pub record IsSeenAs (old new : Board) : Type 0 where
  pub flows : Same is_open old new
  pub counts : Same count old new
  pub watched : Same watched_by old new
  pub buffers : Same is_known old new
  pub marks : Same is_marked old new
  pub watchers : Same watchers_of old new
  pub pending : Same pending_on old new

-- the buffer is known, unmarked and without watchers
pub record Knows (b : BufferId) (old new : Board) : Type 0 where
  pub flows : Same is_open old new
  pub counts : Same count old new
  pub watched : Same watched_by old new
  pub buffers : (c : BufferId) → is_known new c ≡ (same_buffer b c || is_known old c)
  pub marks : Same is_marked old new
  pub watchers : Same watchers_of old new
  pub pending : Same pending_on old new

-- the buffer is no longer known
pub record Closes (b : BufferId) (old new : Board) : Type 0 where
  pub flows : Same is_open old new
  pub counts : Same count old new
  pub watched : Same watched_by old new
  pub buffers : (c : BufferId) → is_known new c ≡ (not (same_buffer b c) && is_known old c)
  pub marks : (c : BufferId) → is_marked new c ≡ (not (same_buffer b c) && is_marked old c)
  pub watchers : Same watchers_of old new
  pub pending : Same pending_on old new

-- the flow is the buffer's last watcher, and is held back where the buffer is above
pub record Watches (f : FlowId) (b : BufferId) (old new : Board) : Type 0 where
  pub flows : Same is_open old new
  pub counts : (g : FlowId) → count new g ≡ count old g + (if same_flow f g && is_marked old b then 1 else 0)
  pub watched : (g : FlowId) → watched_by new g ≡ watched_by old g ++ (if same_flow f g then b ∷ [] else [])
  pub buffers : Same is_known old new
  pub marks : Same is_marked old new
  pub watchers : (c : BufferId) → watchers_of new c ≡ watchers_of old c ++ (if same_buffer b c then f ∷ [] else [])
  pub pending : Same pending_on old new

-- the flow is there, its send buffer is known, and it watches that and then the write buffer of a connection
pub record Opens (f : FlowId) (conn : ℕ) (old new : Board) : Type 0 where
  pub begun : Board
  pub known : Board
  pub watching : Board
  pub begins : Begins f old begun
  pub knows : Knows (buffer.Send f) begun known
  pub watches_send : Watches f (buffer.Send f) known watching
  pub watches_write : Watches f (buffer.Write conn) watching new

-- the buffer is above, and each of its watchers is held back once more
pub record Rises (b : BufferId) (old new : Board) : Type 0 where
  pub flows : Same is_open old new
  pub counts : (f : FlowId) → count new f ≡ count old f + times f (watchers_of old b)
  pub watched : Same watched_by old new
  pub buffers : Same is_known old new
  pub marks : (c : BufferId) → is_marked new c ≡ (same_buffer b c || is_marked old c)
  pub watchers : Same watchers_of old new
  pub pending : Same pending_on old new

-- the buffer is not above, and each of its watchers has a pending low, in order
pub record Drains (b : BufferId) (old new : Board) : Type 0 where
  pub flows : Same is_open old new
  pub counts : Same count old new
  pub watched : Same watched_by old new
  pub buffers : Same is_known old new
  pub marks : (c : BufferId) → is_marked new c ≡ (not (same_buffer b c) && is_marked old c)
  pub watchers : Same watchers_of old new
  pub pending : (c : BufferId) →
      pending_on new c ≡ pending_on old c ++ (if same_buffer b c then watchers_of old b else [])

-- the first pending low of the buffer is taken, and its flow is held back once less
pub record Tells (b : BufferId) (told : List FlowId) (old new : Board) : Type 0 where
  pub flows : Same is_open old new
  pub counts : (f : FlowId) → count new f + times f told ≡ count old f
  pub watched : Same watched_by old new
  pub buffers : Same is_known old new
  pub marks : Same is_marked old new
  pub watchers : Same watchers_of old new
  pub pending : (c : BufferId) → pending_on old c ≡ (if same_buffer b c then told else []) ++ pending_on new c

-- the flows without f
abbrev pub without : FlowId → List FlowId → List FlowId
without f = filter (λ g. not (same_flow f g))

-- the buffer is f's own, and no other flow watches it
abbrev pub goes_with : FlowId → Board → BufferId → Bool
goes_with f board b = is_own f b && (length (without f (watchers_of board b)) == 0)

-- nothing of the flow is left
pub record Forgets (f : FlowId) (old new : Board) : Type 0 where
  pub flows : (g : FlowId) → is_open new g ≡ (not (same_flow f g) && is_open old g)
  pub counts : (g : FlowId) → count new g ≡ (if same_flow f g then 0 else count old g)
  pub watched : (g : FlowId) → watched_by new g ≡ (if same_flow f g then [] else watched_by old g)
  pub buffers : (b : BufferId) → is_known new b ≡ (not (goes_with f old b) && is_known old b)
  pub marks : (b : BufferId) → is_marked new b ≡ (not (goes_with f old b) && is_marked old b)
  pub watchers : (b : BufferId) → watchers_of new b ≡ without f (watchers_of old b)
  pub pending : (b : BufferId) → pending_on new b ≡ without f (pending_on old b)
