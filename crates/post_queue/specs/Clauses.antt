-- The words of the calls' clauses: whose pass it is, and what it tells.
use Rattle.std.specs.Prelude.{◌≡◌, ℕ, ◌+◌, cond, nat_lt, List, vec_capacity}
use mathlib.Core.Option.{some}
use lib.ListN.{get_elem?}
use Rattle.crossbeam_queue.specs.SegTies.{IsSegPassOf}
use Rattle.flow_notes.specs.declared.events.Job.{Job}
use Rattle.post_queue.specs.Pass.{view}
use Rattle.post_queue.specs.declared.posts.Post.{Post}
use Rattle.post_queue.specs.declared.hand.Hand.{Hand}
use Rattle.post_queue.specs.declared.passes.PosterPass.{PosterPass}
use Rattle.post_queue.specs.declared.passes.PosterPasses.{PosterPasses}
use Rattle.post_queue.specs.declared.passes.RunnerPass.{RunnerPass}
use Rattle.post_queue.specs.declared.post_box.PostBox.{PostBox}
use Rattle.post_queue.specs.Posts.{posts_of, numbered}
use Rattle.post_queue.specs.Steps.{Knows}

-- the pass posts into this box
abbrev pub IsPosterOf : PostBox → PosterPass → Type 0
IsPosterOf box p = IsSegPassOf box.queue p.pass

-- the pass runs what is posted into this box, and knows how many posters it has
abbrev pub IsRunnerOf : PostBox → RunnerPass → Type 0
IsRunnerOf box r = IsSegPassOf box.queue r.pass × ((view r.pass).count ≡ box.posters)

-- the jobs that the poster posted, and how many of its posts were answered
abbrev pub made_by : PosterPass → List Job
made_by p = (view p.pass).made

abbrev pub tries_of : PosterPass → ℕ
tries_of p = (view p.pass).tries

-- the posts that were run, how many steps took them, and by how many drains
abbrev pub ran_by : RunnerPass → List Post
ran_by r = (view r.pass).ran

abbrev pub pops_of : RunnerPass → ℕ
pops_of r = (view r.pass).pops

abbrev pub drains_of : RunnerPass → ℕ
drains_of r = (view r.pass).drains

-- the steps of a drain that took n posts: a pop each, and one that found nothing where it took fewer than 64
abbrev pub pops_for : ℕ → ℕ
pops_for n = n + cond (nat_lt n 64) 1 0

-- the passes that lie in a list, and how many have room there
abbrev pub passes_in : PosterPasses → List PosterPass
passes_in l = l.passes.items

abbrev pub room_in : PosterPasses → ℕ
room_in l = vec_capacity l.passes

-- pass k of the list is that of poster k
abbrev pub AreInPlace : List PosterPass → Type 0
AreInPlace passes = (k : ℕ) (p : PosterPass) → get_elem? passes k ≡ some p → p.poster ≡ k

-- the runner knows what this poster made in all
abbrev pub KnowsOf : Hand → PosterPass → Type 0
KnowsOf v p = Knows v p.poster (made_by p)

-- these posts have, of this poster, just what it made, each once and in order
abbrev pub IsAllOf : List Post → PosterPass → Type 0
IsAllOf posts p = posts_of p.poster posts ≡ numbered p.poster 0 (made_by p)
