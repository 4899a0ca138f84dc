-- The posts of one poster in a list, and their numbers.
use Rattle.std.proofs.Common.{◌≡◌, ◌≢◌, ℕ, ◌+◌, Bool, true, false, cond, eqb, List, [], ◌∷◌, ◌++◌, length, refl, ap, ◌∙◌, eq-eqb, ne_eqb, arith}
use Rattle.flow_notes.specs.declared.events.Job.{Job}
use Rattle.post_queue.specs.declared.posts.Post.{Post}
use Rattle.post_queue.specs.Posts.{posts_of, numbered}

pub posts_of-append : (p : ℕ) (xs ys : List Post) → posts_of p (xs ++ ys) ≡ posts_of p xs ++ posts_of p ys
posts_of-append p [] ys = refl
posts_of-append p (x ∷ xs) ys = kept_or_not (eqb p x.poster) x (posts_of p (xs ++ ys)) (posts_of p xs) (posts_of p ys) (posts_of-append p xs ys)
  where
    kept_or_not : (b : Bool) (x : Post) (whole front back : List Post) → whole ≡ front ++ back → cond b (x ∷ whole) whole ≡ cond b (x ∷ front) front ++ back
    kept_or_not true x whole front back e = ap (λ l. x ∷ l) e
    kept_or_not false x whole front back e = e

pub mine : (x : Post) → posts_of x.poster (x ∷ []) ≡ x ∷ []
mine x = ap (λ b. cond b (x ∷ []) []) (eq-eqb x.poster x.poster refl)

pub not_mine : (p : ℕ) (x : Post) → p ≢ x.poster → posts_of p (x ∷ []) ≡ []
not_mine p x ne = ap (λ b. cond b (x ∷ []) []) (ne_eqb p x.poster ne)

pub numbered-append : (p n : ℕ) (js : List Job) (j : Job) → numbered p n (js ++ j ∷ []) ≡ numbered p n js ++ record { poster = p; number = n + length js; job = j } ∷ []
numbered-append p n [] j = ap (λ (k : ℕ). record { poster = p; number = k; job = j } ∷ []) (omega arith)
numbered-append p n (i ∷ js) j = ap (λ l. record { poster = p; number = n; job = i } ∷ l) (numbered-append p (n + 1) js j ∙ ap (λ (k : ℕ). numbered p (n + 1) js ++ record { poster = p; number = k; job = j } ∷ []) (omega arith))

abbrev head_or : Post → List Post → Post
head_or x [] = x
head_or x (y ∷ ys) = y

abbrev tail_or : List Post → List Post
tail_or [] = []
tail_or (y ∷ ys) = ys

tail_is : (x y : Post) (xs ys : List Post) → x ∷ xs ≡ y ∷ ys → (x ≡ y) × (xs ≡ ys)
tail_is x y xs ys e = (ap (head_or x) e, ap tail_or e)

-- a beginning of numbered posts is numbered
pub numbered-front : (p n : ℕ) (js : List Job) (xs ys : List Post) → xs ++ ys ≡ numbered p n js → (is : List Job) × (xs ≡ numbered p n is)
numbered-front p n js [] ys e = ([], refl)
numbered-front p n [] (x ∷ xs) ys e = absurd (cc)
numbered-front p n (j ∷ js) (x ∷ xs) ys e = let t = tail_is x (record { poster = p; number = n; job = j }) (xs ++ ys) (numbered p (n + 1) js) e in let r = numbered-front p (n + 1) js xs ys t.1 in
    (j ∷ r.0, λ i. t.0 i ∷ r.1 i)
