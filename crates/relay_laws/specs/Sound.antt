-- What is true of the tape of whole dispatches at its end.
use Rattle.relay_laws.specs.Lawful.{EachPaired}
use Rattle.relay_laws.specs.Order.{is_new}
use Rattle.relay_laws.specs.Pairs.{Tape, feed, free, goes_to, is_open, opposite, pairs}
use Rattle.relay_laws.specs.World.{out}
use Rattle.relay_laws.specs.declared.Feed.{Feed}
use Rattle.std.specs.Prelude.{List, None, Some, [], false, true, ℕ, ◌<◌, ◌∷◌, ◌≡◌, ◌≤◌}
use Rattle.std.specs.List.{AllByRecursion}
use Rattle.tape_laws.specs.Dispatches.{events_back, has}

-- a connection in a live pair is open, and the other one feeds it
pub record IsPaired (h : Tape) (c : ℕ) (f : Feed) : Type 0 where
  pub back : feed f.to h ≡ Some (record { flow = opposite f.flow; to = c })
  pub goes : goes_to f.flow h ≡ Some f.to
  pub comes : goes_to (opposite f.flow) h ≡ Some c
  pub opened : is_open c h ≡ true
  pub few : f.flow.exchange ≤ pairs h

-- a connection that is closed, or isn't known, holds nothing and feeds nothing
pub record IsDone (h : Tape) (c : ℕ) : Type 0 where
  pub out : out c h ≡ []
  pub feed : feed c h ≡ None

-- a free one is open, and holds and feeds nothing either
pub record IsFree (h : Tape) (c : ℕ) : Type 0 where
  pub opened : is_open c h ≡ true
  pub out : out c h ≡ []
  pub feed : feed c h ≡ None

-- a new one isn't open, and comes after those that are free
pub record IsFresh (h : Tape) (c : ℕ) : Type 0 where
  pub closed : is_open c h ≡ false
  pub after : AllByRecursion (λ d. d < c) (free h)

-- the numbers rise
abbrev pub Rises : List ℕ → Type 0
Rises [] = Unit {0}
Rises (c ∷ cs) = AllByRecursion (λ d. c < d) cs × Rises cs

pub record IsSound (h : Tape) : Type 0 where
  pub paired : EachPaired (IsPaired h) h
  pub done : (c : ℕ) → is_open c h ≡ false → IsDone h c
  pub rises : Rises (free h)
  pub fresh : (c : ℕ) → is_new (events_back h) c ≡ true → IsFresh h c
  pub unpaired : (c : ℕ) → has (free h) c ≡ true → IsFree h c
