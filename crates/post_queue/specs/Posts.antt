-- The posts of one poster in a list, and their numbers.
use Rattle.std.specs.Prelude.{◌≡◌, ℕ, ◌+◌, ◌<◌, ◌^◌, ◌==◌, List, [], ◌∷◌, filter}
use Rattle.flow_notes.specs.declared.events.Job.{Job}
use Rattle.flow_notes.specs.declared.events.Job.TheVariants.{Drain, Cancel, Look}
use Rattle.post_queue.specs.declared.posts.Post.{Post}

-- the posts of poster p, in the list's order
abbrev pub posts_of : ℕ → List Post → List Post
posts_of p posts = filter (λ (x : Post). p == x.poster) posts

-- these jobs as posts of poster p, numbered from n
abbrev pub numbered : ℕ → ℕ → List Job → List Post
numbered p n [] = []
numbered p n (job ∷ jobs) = record { poster = p; number = n; job = job } ∷ numbered p (n + 1) jobs

-- the posts of each poster are numbered 0, 1, 2 and so on
abbrev pub AreNumbered : List Post → Type 0
AreNumbered posts = (p : ℕ) → (jobs : List Job) × (posts_of p posts ≡ numbered p 0 jobs)

-- where the job gives an exchange up, the exchange's number is below 2^63
abbrev pub IsAllowedJob : Job → Type 0
IsAllowedJob Drain = Unit {0}
IsAllowedJob (Cancel exchange) = exchange < 2 ^ 63
IsAllowedJob Look = Unit {0}

-- and so is the post's own number
abbrev pub IsAllowed : Post → Type 0
IsAllowed x = (x.number < 2 ^ 63) × IsAllowedJob x.job
