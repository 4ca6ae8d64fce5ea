-- Each turn is a case more, and the loop ends where the input does, after a case whose call returned false, or with the most cases.
use Rattle.std.proofs.Common.{◌≡◌, ℕ, List, [], ◌∷◌, ◌++◌, arith, length-append, Bool, Ok, Option, Result, subst, refl, inl, inr, of_calls}
use Rattle.std.specs.Borrow.{MutBor}
use Rattle.std.specs.Fn.{Mut, Called}
use Rattle.std.proofs.lemmas.Fn.{FoldsTo-push}
use Rattle.cases.specs.Case.{IsNamed}
use Rattle.cases.specs.Run.{Moment, IsCase}
use Rattle.cases.proofs.run.Goals as goal
use Rattle.cases.proofs.run.Goals.{else-loop-test, then-loop-test+in_ok-next_case+then-not-branch, then-not-branch-via-then-not-branch, then-not-branch-via-else-not-branch+in_ok-case+then-not-branch-2}

module _ {R W F E : Type 0} (remaining : R → Option (List ℕ)) (contents : W → Option (List ℕ))
    (g : Mut F (MutBor R × (MutBor W × Unit {0})) (Result Bool E × (MutBor R × (MutBor W × Unit {0})))) where
  -- a line that names a case and a call
  done : (s : Moment R W F) (i : MutBor R) (o : MutBor W) (left : MutBor R × (MutBor W × Unit {0})) (case : F) (b more : Bool)
      → b ≡ more
      → ((name : List ℕ) × IsNamed name (remaining s.input) (remaining i.now) (contents s.out) (contents o.now))
      → Called g s.case (i, (o, tt)) (Ok b, left) case
      → (name : List ℕ) × IsCase remaining contents g more s name (record { input = left.0.now; out = left.1.0.now; case = case })
  done s i o left case b more same named called = (
    named.0,
    record {
      input = i;
      out = o;
      named = named.1;
      left = left;
      called = subst (λ x. Called g s.case (i, (o, tt)) (Ok x, left) case) same called;
      leaves = (refl, refl);
    },
  )

pub loop-preserved : goal.loop-preserved
loop-preserved g c =
    let first : Moment _ _ _ = record { input = c.args.input.now; out = c.args.out.now; case = c.args.case } in
    let here : Moment _ _ _ = record { input = c.loop.input; out = c.loop.out; case = c.loop.case } in
    let before = c.loop.invariant in
    let case = done g.R.Read.remaining g.W.Write.contents g.F.FnMut here _ _ _ _ _ _ c.if-not-branch-2.false (c.in_ok-next_case.ensures.named c.if-not-branch.false) c.in_ok-case.ensures in
    record {
      callable = search (of_calls);
      names = before.names ++ case.0 ∷ [];
      many = omega (arith, length-append before.names (case.0 ∷ []));
      turns = FoldsTo-push _ first before.names here case.0 _ before.turns case.1;
    }

pub returns : goal.returns
returns g c =
    let last : Moment _ _ _ = record { input = c.loop.input; out = c.loop.out; case = c.loop.case } in
    let before = c.loop.invariant in
    elim c.loop-test.branch [
      | else-loop-test w ↦
          rw (w.input-is, w.out-is)
          (record { names = before.names; last = last; turns = before.turns; case = last.case; stops = inr (omega arith, refl, refl) })
      | then-loop-test+in_ok-next_case+then-not-branch w ↦
          let more = w.in_ok-next_case.ensures in
          elim w.then-not-branch.branch [
            | then-not-branch-via-then-not-branch v ↦
                rw (w.input-is, w.out-is, v.input-is, v.out-is)
                (record { names = before.names; last = last; turns = before.turns; case = last.case; stops = inl (omega arith, inl (more.last v.if-not-branch.true)) })
            | then-not-branch-via-else-not-branch+in_ok-case+then-not-branch-2 v ↦
                let stopped = done g.R.Read.remaining g.W.Write.contents g.F.FnMut last _ _ _ _ _ _ v.if-not-branch-2.true (more.named v.if-not-branch.false) v.in_ok-case.ensures in
                rw (w.input-is, w.out-is, v.input-is, v.out-is)
                (record { names = before.names; last = last; turns = before.turns; case = v.case.new.self; stops = inl (omega arith, inr stopped) })
          ]
    ]
