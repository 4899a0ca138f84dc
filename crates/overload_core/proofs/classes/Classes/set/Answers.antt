use Rattle.std.proofs.Common.{ℕ, List, sym, ap, ◌∙◌, subst}
use Rattle.overload_core.specs.Accounts.{Accounts, entered, without}
use Rattle.overload_core.specs.Class.{IsClassOf}
use Rattle.overload_core.proofs.OneClass.{one_class}
use Rattle.overload_core.proofs.Setting.{keeps, changes, without-same, on_ok}
use Rattle.overload_core.proofs.classes.Classes.set.Goals as goal

pub returns-then-class-before-clause-ok : goal.returns-then-class-before-clause-ok
returns-then-class-before-clause-ok g c k h =
    let a = c.args.self.now in let e = c.args.exchange in let class = c.class_of-class.result in
    let is = one_class a.start c.args.bytes class k (subst (λ s. IsClassOf s c.args.bytes class) (ap (λ (b : Accounts). b.start) c.self.view_is) c.class_of-class.ensures) h in
    ap (λ (cs : List (List ℕ)). record a { classes = cs }) (sym (keeps k e a.classes (sym c.class-before.ensures ∙ sym c.if-class-before.true ∙ is)))

pub returns-then-class-eq0-clause-ok : goal.returns-then-class-eq0-clause-ok
returns-then-class-eq0-clause-ok g c k h =
    let a = c.args.self.now in let e = c.args.exchange in let class = c.class_of-class.result in
    let is = one_class a.start c.args.bytes class k (subst (λ s. IsClassOf s c.args.bytes class) (ap (λ (b : Accounts). b.start) c.self.view_is) c.class_of-class.ensures) h in
    c.leave.ensures.left
    ∙ ap (λ (cs : List (List ℕ)). record a { classes = cs }) (sym (changes k e a.classes (λ d. c.if-class-before.false (is ∙ sym d ∙ sym c.class-before.ensures)) ∙ ap (λ j. entered j e (without e a.classes)) (sym is ∙ c.if-class-eq0.true)))

pub returns-then-before-eq0-clause-ok : goal.returns-then-before-eq0-clause-ok
returns-then-before-eq0-clause-ok g c = on_ok c.enter.result c.enter.ensures.ok (λ n k h.
    let a = c.args.self.now in let e = c.args.exchange in let class = c.class_of-class.result in
    let is = one_class a.start c.args.bytes class k (subst (λ s. IsClassOf s c.args.bytes class) (ap (λ (b : Accounts). b.start) c.self.view_is) c.class_of-class.ensures) h in
    n ∙ ap (λ (cs : List (List ℕ)). record a { classes = cs })
    (ap (λ j. entered j e a.classes) is
    ∙ ap (entered k e) (sym (without-same e a.classes (sym c.class-before.ensures ∙ c.if-before-eq0.true)))
    ∙ sym (changes k e a.classes (λ d. c.if-class-before.false (is ∙ sym d ∙ sym c.class-before.ensures)))))

pub returns-clause-ok : goal.returns-clause-ok
returns-clause-ok g c k h =
    let a = c.args.self.now in let e = c.args.exchange in let class = c.class_of-class.result in
    let is = one_class a.start c.args.bytes class k (subst (λ s. IsClassOf s c.args.bytes class) (ap (λ (b : Accounts). b.start) c.self.view_is) c.class_of-class.ensures) h in
    c.shift.ensures.moved
    ∙ ap (λ (cs : List (List ℕ)). record a { classes = cs }) (ap (λ j. entered j e (without e a.classes)) is ∙ sym (changes k e a.classes (λ d. c.if-class-before.false (is ∙ sym d ∙ sym c.class-before.ensures))))
