use Rattle.std.proofs.Common.{◌≡◌, ℕ, ◌+◌, ◌*◌, ◌<◌, ◌≤◌, List, map, length, get_or, set, sym, refl, ap, ◌∙◌, subst, arith}
use Rattle.std.specs.List.{range_with_len}
use Rattle.std.proofs.lemmas.List.{length-set}
use Rattle.metric.specs.Channels.{AddsAt}
use Rattle.refine.specs.Bounds.{Channels, place, entry}
use Rattle.engine.specs.declared.records.Candidate.{Candidate}
use Rattle.engine.specs.Tables.{Tables, channels_of}
use Rattle.engine.specs.Slots.{Filled, Sound}
use Rattle.engine.proofs.Fills.{filled_next, filled_all, filled_entries}
use Rattle.engine.proofs.steps.advance.Goals as goal

-- the entries with the weighted distance of the channel of the next place, at as many channels as there are weights
entered : (t : Tables) (w : List ℕ) (x : Candidate) (k d v : ℕ) → Sound t w x → x.measured < t.channels → t.channels ≤ 8 → length w ≡ t.channels → k ≡ get_or x.order x.measured 0
    → d ≡ t.dist x.slot k → v ≡ get_or w k 0 * d → v ≤ 16711425 → Filled (entry t.channels (channels_of t w x.slot) (x.measured + 1)) (length w) (set x.entries k v)
entered t w x k d v s more few e kn dn vn small =
    let m = t.channels in
    let cs : Channels = channels_of t w x.slot in
    let o = s.order x.measured more in
    subst (λ (n : ℕ). Filled (entry m cs (x.measured + 1)) n (set x.entries k v)) (sym e)
    (filled_next m cs x.measured (x.measured + 1) k v x.entries (omega (arith, s.entries_long)) (omega (arith, o.0)) (ap (place m cs) kn ∙ o.1) (omega arith) (vn ∙ ap (λ (y : ℕ). get_or w k 0 * y) dn) small s.entries)

pub combine-requires : goal.combine-requires
combine-requires g c =
    let t = g.S.Source.tables c.args.source.now c.args.meter.now in
    let w = c.args.question.now.weights.now in
    let x = c.args.top in
    let s = c.requires.sound in
    let k = c.next_channel-c in
    let v = c.scale in
    let dv = rw c.from.ensures at c.distance-distance.ensures.value in
    let f = entered t w x k.result c.distance-distance.result v.result s c.requires.more c.requires.weighable.few c.requires.weighable.weighted k.ensures dv v.ensures.value v.ensures.small in
    let long : length (set x.entries k.result v.result) ≡ 8 = length-set x.entries k.result v.result ∙ s.entries_long in
    filled_entries (entry t.channels (channels_of t w x.slot) (x.measured + 1)) (length w) (set x.entries k.result v.result) (omega arith) (omega arith) (omega arith) f

pub returns : goal.returns
returns g c =
    let S = g.S.Source in
    let t = S.tables c.args.source.now c.args.meter.now in
    let w = c.args.question.now.weights.now in
    let x = c.args.top in
    let s = c.requires.sound in
    let k = c.next_channel-c in
    let v = c.scale in
    let d = c.distance-distance in
    let e = c.requires.weighable.weighted in
    let h : ℕ → ℕ = entry t.channels (channels_of t w x.slot) (x.measured + 1) in
    let es = set x.entries k.result v.result in
    let dv = rw c.from.ensures at d.ensures.value in
    let f = entered t w x k.result d.result v.result s c.requires.more c.requires.weighable.few e k.ensures dv v.ensures.value v.ensures.small in
    let long : length es ≡ 8 = length-set x.entries k.result v.result ∙ s.entries_long in
    record {
      next = record {
        coherent = record {
          sound = record { slot = s.slot; number = s.number; within = omega (arith, c.requires.more); order = s.order; entries = subst (λ (n : ℕ). Filled h n es) e f; order_long = s.order_long; entries_long = long };
          bound = c.combine.ensures ∙ ap (g.A.Aggregate.meaning c.args.question.now.aggregate.now) (filled_all h (length w) es (omega arith) f ∙ ap (λ (n : ℕ). map h (range_with_len 0 n)) e);
        };
        slot = refl;
        measured = omega arith;
      };
      kept = d.ensures.kept;
      same = d.ensures.same;
      ready = d.ensures.ready;
      adds = subst (λ (n : ℕ). AddsAt (S.asked c.args.source.now c.args.meter.now) (S.asked c.args.source.now d.new.meter) n (t.left x.slot n) (t.right x.slot n)) k.ensures (rw c.from.ensures at d.ensures.adds);
    }
