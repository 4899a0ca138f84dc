-- Classes that follow the course at its beginning, and where an exchange starts or is gone.
use Rattle.std.proofs.Common.{◌≡◌, ℕ, zero, suc, ◌+◌, ◌<◌, Bool, true, false, cond, List, [], refl, sym, ap, ◌∙◌, arith}
use Rattle.std.specs.Prelude.{◌==◌, nat_le, replicate}
use Rattle.std.proofs.lemmas.Bool.{leb-true, leb-false}
use Rattle.link_lists.proofs.Memory.{either}
use Rattle.overload_core.specs.Accounts.{without}
use Rattle.overload_core.specs.Course.{Holding, newest, class_number, class_at, place, Precedes, Follow, IsClass, AreClasses}
use Rattle.overload_core.proofs.Members.{other_number, retold, left, length-without}
use Rattle.overload_core.proofs.Turning.{no_class}

always : (b : Bool) → cond {A = ℕ} b 0 0 ≡ 0
always true = refl
always false = refl

module _ (start : ℕ) where
  nowhere : (live : ℕ → Bool) (e : ℕ) → place start [] live e ≡ 0
  nowhere live e = either (live e) (λ t. rw t (no_class start)) (λ f. rw f refl)

  empty_class : (live : ℕ → Bool) (k : ℕ) → 0 < k → IsClass (place start [] live) (Precedes start []) k []
  empty_class live k some = record {
    those = λ e. rw (nowhere live e) (sym (other_number 0 k (λ q. omega (arith, some, q))));
    order = λ i j d less below. absurd (omega (arith, below));
  }

  all_empty : (live : ℕ → Bool) (k n : ℕ) → 0 < k → AreClasses (place start [] live) (Precedes start []) k (replicate n [])
  all_empty live k zero some = tt
  all_empty live k (suc n) some = (empty_class live k some, all_empty live (k + 1) n (omega arith))

  pub begun : (live : ℕ → Bool) → Follow start [] live (replicate 8 [])
  begun live = record {
    eight = refl;
    each = all_empty live 1 8 (omega arith);
  }

  -- Exchanges of no class may come and go.
  elsewhere : (ends : List Holding) (live alive : ℕ → Bool) (e : ℕ) → (0 < newest ends e → alive e ≡ live e) → place start ends alive e ≡ place start ends live e
  elsewhere ends live alive e same = either (nat_le 1 (newest ends e))
      (λ b. ap (λ c. cond c (class_at start ends e) 0) (same (leb-true 1 (newest ends e) b)))
      (λ b. let low = leb-false 1 (newest ends e) b in let none : newest ends e ≡ 0 = omega (arith, low) in
      let class : class_at start ends e ≡ 0 = ap (class_number start) none ∙ no_class start in rw class (always (alive e) ∙ sym (always (live e))))

  pub started : (ends : List Holding) (live alive : ℕ → Bool) (classes : List (List ℕ)) → Follow start ends live classes → ((e : ℕ) → 0 < newest ends e → alive e ≡ live e) → Follow start ends alive classes
  started ends live alive classes h same = record {
    eight = h.eight;
    each = retold (place start ends live) (Precedes start ends) (place start ends alive) (Precedes start ends) 1 1 classes (omega arith)
        (λ e n low. ap (λ c. c == n) (elsewhere ends live alive e (same e))) (λ n x y low p q r. r) h.each;
  }

  pub dropped : (ends : List Holding) (live alive : ℕ → Bool) (classes : List (List ℕ)) (e : ℕ) → Follow start ends live classes → ((x : ℕ) → alive x ≡ cond (x == e) false (live x)) → Follow start ends alive (without e classes)
  dropped ends live alive classes e h told = record {
    eight = length-without e classes ∙ h.eight;
    each = left (place start ends live) (Precedes start ends) e (place start ends alive) 1 classes (omega arith)
        (λ x. either (x == e) (λ t. rw (told x, t) refl) (λ f. rw (told x, f) refl)) h.each;
  }
