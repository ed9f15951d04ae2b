use Rattle.std.proofs.Common.{ℕ, List, ◌++◌, true, false, string_bytes, ap, ◌∙◌, subst, append_assoc}
use Rattle.patch.specs.Patches.{few}
use Rattle.command.specs.declared.format.Format.{Format}
use Rattle.console.specs.Sessions.{Session, written}
use Rattle.console.proofs.Running.{one_more, come, shorter, turned}
use Rattle.console.proofs.run.Goals as goal

pub loop-smaller : goal.loop-smaller
loop-smaller g c =
    let i = c.loop.invariant in
    let t = c.in_ok-turn.ensures.turn in
    shorter _ _ _ _ _ _ _ _ _ _ i.2.1 (turned _ _ _ _ _ _ _ _ _ _ true (ap few i.0) i.1 c.if-branch.true t.1)

pub loop-preserved : goal.loop-preserved
loop-preserved g c =
    let i = c.loop.invariant in
    let t = c.in_ok-turn.ensures.turn in (
      c.turn.ensures.same ∙ i.0,
      c.turn.ensures.format ∙ i.1,
      (
        i.2.0 ++ t.0,
        one_more _ _ _ _ _ _ _ _ _ _ i.2.1 (turned _ _ _ _ _ _ _ _ _ _ true (ap few i.0) i.1 c.if-branch.true t.1),
        t.2 ∙ ap (λ (l : List ℕ). l ++ t.0) i.2.2 ∙ append_assoc (string_bytes c.args.out.now) i.2.0 t.0,
      ),
    )

pub returns-clause-session : goal.returns-clause-session
returns-clause-session g c =
    let i = c.loop.invariant in
    let t = c.in_ok-turn.ensures.turn in (
      i.2.0 ++ t.0,
      subst (λ (f : Format). Session (few (g.S.ChannelSet.models c.args.index.now.set)) f (written c.args.index.now.counts c.args.store.now) c.args.input.now (i.2.0 ++ t.0) (written c.turn.new.index.counts c.turn.new.store)) c.new-reader.ensures.0
          (come _ _ _ _ _ _ _ _ _ _ i.2.1 (turned _ _ _ _ _ _ _ _ _ _ false (ap few i.0) i.1 c.if-branch.false t.1)),
      t.2 ∙ ap (λ (l : List ℕ). l ++ t.0) i.2.2 ∙ append_assoc (string_bytes c.args.out.now) i.2.0 t.0,
    )
