-- What each kind of step makes of a pass's view, and what it tells.
use Rattle.std.specs.Prelude.{◌≡◌, ℕ, ◌+◌, ◌≤◌, true, false, List, [], ◌∷◌, ◌++◌, length}
use mathlib.Core.Option.{some}
use lib.ListN.{get_elem?}
use Rattle.flow_notes.specs.declared.events.Job.{Job}
use Rattle.post_queue.specs.declared.posts.Post.{Post}
use Rattle.post_queue.specs.declared.hand.Known.{Known}
use Rattle.post_queue.specs.declared.hand.Hand.{Hand}
use Rattle.post_queue.specs.Posts.{posts_of, numbered, AreNumbered, IsAllowed}
use Rattle.post_queue.specs.Rule.{made_by_ended}

-- a pass that may do nothing
abbrev pub idle : Hand
idle = record { posts = false; number = 0; made = []; tries = 0; runs = false; ran = []; pops = 0; drains = 0; count = 0; known = [] }

-- the runner at first, when there is no poster
abbrev pub runner : Hand
runner = record idle { runs = true }

-- poster p at first
abbrev pub poster : ℕ → Hand
poster p = record idle { posts = true; number = p }

abbrev pub posted : Hand → Post → Hand
posted v x = record v { made = v.made ++ x.job ∷ []; tries = v.tries + 1 }

abbrev pub popped : Hand → Post → Hand
popped v x = record v { ran = v.ran ++ x ∷ []; pops = v.pops + 1 }

-- a pop that found nothing
abbrev pub missed : Hand → Hand
missed v = record v { pops = v.pops + 1 }

abbrev pub drained : Hand → Hand
drained v = record v { drains = v.drains + 1 }

abbrev pub enrolled : Hand → Hand
enrolled v = record v { count = v.count + 1 }

abbrev pub ended : Hand → Hand → Hand
ended v w = record v { known = v.known ++ record { number = w.number; made = w.made } ∷ [] }

-- once every poster has ended, no more was run than they made
abbrev pub IsWithin : Hand → Type 0
IsWithin v = length v.known ≡ v.count → length v.ran ≤ made_by_ended v.known

-- what a pop tells of the post that it took
pub record Popped (v : Hand) (x : Post) (w : Hand) : Type 0 where
  pub step : w ≡ popped v x
  pub in_order : AreNumbered w.ran
  pub allowed : IsAllowed x
  pub within : IsWithin w

-- of each ended poster, what was run and what the queue holds is what it made
abbrev pub Accounts : Hand → List Post → Type 0
Accounts v items = (j : ℕ) (k : Known) → get_elem? v.known j ≡ some k → posts_of k.number (v.ran ++ items) ≡ numbered k.number 0 k.made

-- what the runner learns of what the queue holds
abbrev pub Learned : Hand → List Post → Type 0
Learned v items = Accounts v items × AreNumbered v.ran

-- the runner knows what poster p made in all
abbrev pub Knows : Hand → ℕ → List Job → Type 0
Knows v p made = (j : ℕ) × (get_elem? v.known j ≡ some record { number = p; made = made })
