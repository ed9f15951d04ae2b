use Rattle.std.proofs.Common.{ℕ, List, ◌++◌, true, false, length, string_bytes, ap, ◌∙◌, subst, append_assoc, arith}
use Rattle.patch.specs.Patches.{few}
use Rattle.command.specs.declared.format.Format.{Format}
use Rattle.console.specs.Sessions.{written}
use Rattle.search_console.specs.Sessions.{room_of, Session}
use Rattle.search_console.proofs.Running.{one_more, come, shorter, turned}
use Rattle.search_console.proofs.Promising.{session_promised}
use Rattle.search_console.proofs.run.Goals as goal

pub loop-smaller : goal.loop-smaller
loop-smaller g c =
    let i = c.loop.invariant in
    let k = c.loop.auto in
    let t = c.in_ok-turn.ensures.turn in
    shorter _ _ _ _ _ _ _ _ _ _ _ i.2.1 (turned _ _ _ _ _ _ _ _ _ _ _ _ true (ap few i.0) i.1 (λ j. room_of (k.hits j) (k.candidates j) (k.uppers j)) c.if-branch.true t.1)

pub loop-preserved : goal.loop-preserved
loop-preserved g c =
    let i = c.loop.invariant in
    let k = c.loop.auto in
    let t = c.in_ok-turn.ensures.turn in (
      c.turn.ensures.same ∙ i.0,
      c.turn.ensures.format ∙ i.1,
      (
        i.2.0 ++ t.0,
        one_more _ _ _ _ _ _ _ _ _ _ _ i.2.1 (turned _ _ _ _ _ _ _ _ _ _ _ _ true (ap few i.0) i.1 (λ j. room_of (k.hits j) (k.candidates j) (k.uppers j)) c.if-branch.true t.1),
        t.2 ∙ ap (λ (l : List ℕ). l ++ t.0) i.2.2 ∙ append_assoc (string_bytes c.args.out.now) i.2.0 t.0,
      ),
    )

pub returns : goal.returns
returns g c =
    let i = c.loop.invariant in
    let k = c.loop.auto in
    let t = c.in_ok-turn.ensures.turn in
    let a = c.args in
    let x = a.index.now in
    let ms = g.S.ChannelSet.models x.set in
    let room = room_of (length a.hits.now) (length a.candidates.now) (length a.uppers.now) in
    let w = written x.counts a.store.now in
    let v = written c.turn.new.index.counts c.turn.new.store in
    let printed = i.2.0 ++ t.0 in
    let s =
    subst (λ (f : Format). Session (few ms) f room w a.input.now printed v) c.new-reader.ensures.0
    (come _ _ _ _ _ _ _ _ _ _ _ i.2.1 (turned _ _ _ _ _ _ _ _ _ _ _ _ false (ap few i.0) i.1 (λ j. room_of (k.hits j) (k.candidates j) (k.uppers j)) c.if-branch.false t.1)) in
    let o = t.2 ∙ ap (λ (l : List ℕ). l ++ t.0) i.2.2 ∙ append_assoc (string_bytes a.out.now) i.2.0 t.0 in
    record {
      same = c.turn.ensures.same ∙ i.0;
      session = (printed, s, o);
      promised =
          session_promised ms a.format room w v a.input.now (string_bytes a.out.now) (string_bytes c.turn.new.out) printed
          (g.met.S.ChannelSet.some x.set) (g.met.S.ChannelSet.lawful x.set) (λ n. omega (arith, c.type_inv.input n)) s o;
    }
