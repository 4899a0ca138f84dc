-- The rule of the box: what was run and what the queue holds are, of each poster, what it posted, numbered from 0.
use Rattle.std.specs.Prelude.{◌≡◌, ℕ, ◌+◌, ◌≤◌, true, false, cond, List, [], ◌∷◌, ◌++◌, length, All}
use mathlib.Core.Option.{Option, some, none}
use lib.ListN.{get_elem?}
use Rattle.flow_notes.specs.declared.events.Job.{Job}
use Rattle.post_queue.specs.declared.posts.Post.{Post}
use Rattle.post_queue.specs.declared.hand.Known.{Known}
use Rattle.post_queue.specs.declared.hand.Hand.{Hand}
use Rattle.post_queue.specs.Posts.{posts_of, numbered, IsAllowed}

-- what f gives of each, added up
abbrev pub total : {A : Type 0} → (A → ℕ) → List A → ℕ
total f [] = 0
total f (x ∷ xs) = f x + total f xs

abbrev pub made_by_ended : List Known → ℕ
made_by_ended known = total (λ (k : Known). length k.made) known

-- how many posts a view tells of: those that a poster made, or those of the ended posters that the runner knows
abbrev pub made_in : Hand → ℕ
made_in v = cond v.posts (length v.made) (made_by_ended v.known)

-- how many posters a view tells of
abbrev pub posters_in : Hand → ℕ
posters_in v = cond v.posts 1 (length v.known)

-- one pass at most posts under a number (its seat), and knows all that was sent under it
abbrev pub FitsPoster : (ℕ → Option ℕ) → (ℕ → List Job) → ℕ → Hand → Type 0
FitsPoster seat sent i v = v.posts ≡ true → (seat v.number ≡ some i) × (v.made ≡ sent v.number)

-- what is known of a poster that has ended is all that it sent, and nobody posts under its number any more
abbrev pub FitsKnown : (ℕ → Option ℕ) → (ℕ → List Job) → List Known → Type 0
FitsKnown seat sent known = (j : ℕ) (k : Known) → get_elem? known j ≡ some k → (seat k.number ≡ none) × (k.made ≡ sent k.number)

-- one pass at most runs. It posts nothing, and knows what was run, how many posters there are, and the ended ones
abbrev pub FitsRunner : ℕ → (ℕ → Option ℕ) → (ℕ → List Job) → List Post → ℕ → ℕ → Hand → Type 0
FitsRunner reader seat sent ran count i v = v.runs ≡ true → (i ≡ reader) × (v.posts ≡ false) × (v.ran ≡ ran) × (v.count ≡ count) × FitsKnown seat sent v.known

abbrev pub Fits : ℕ → (ℕ → Option ℕ) → (ℕ → List Job) → List Post → ℕ → ℕ → Hand → Type 0
Fits reader seat sent ran count i v = FitsPoster seat sent i v × FitsRunner reader seat sent ran count i v

pub record IsInOrder (items : List Post) (views : List Hand) : Type 0 where
  -- the pass that runs, the pass that posts under each number, and what was sent under it
  pub reader : ℕ
  pub seat : ℕ → Option ℕ
  pub sent : ℕ → List Job
  -- what was run, and how many posters there are
  pub ran : List Post
  pub count : ℕ
  pub in_order : (p : ℕ) → posts_of p (ran ++ items) ≡ numbered p 0 (sent p)
  pub no_more : (p : ℕ) → count ≤ p → (seat p ≡ none) × (sent p ≡ [])
  pub each : (i : ℕ) (v : Hand) → get_elem? views i ≡ some v → Fits reader seat sent ran count i v
  pub allowed : All IsAllowed items
  -- no post is lost or made up, and no poster
  pub all_posts : length ran + length items ≡ total made_in views
  pub all_posters : total posters_in views ≡ count
