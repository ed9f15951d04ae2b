-- Two promises to one question agree.
use Rattle.std.proofs.Common.{ℕ, ◌≤◌, List, length, Ok, Err, Result, sym, refl, ◌∙◌}
use Rattle.metric.specs.Channels.{Asked, AllLawful}
use Rattle.aggregate.specs.Aggregates.{LawfulAggregate}
use Rattle.refusal.specs.declared.Refusal.{Refusal}
use Rattle.refine.specs.Questions.{Question}
use Rattle.engine.specs.declared.records.Answer.{Answer}
use Rattle.engine.specs.declared.records.Neighbor.{Neighbor}
use Rattle.promise.specs.Promise.{contents, reply, Other}
use Rattle.search.specs.Promised.{Promised}
use Rattle.agreement.specs.Agreements.{Found, Agree}

module _ (x y : Found) (q : Question) (budget budget' : ℕ) (hits hits' : List Neighbor) (before after before' after' : Asked)
    (some : 1 ≤ length y.models) (lawful : AllLawful y.models) (aggregate : LawfulAggregate q.aggregate) where
  pub agreeing : (r r' : Result Answer Refusal)
      → Promised x.models x.counts x.store q budget r hits before after → Promised y.models y.counts y.store q budget' r' hits' before' after'
      → Agree x y q r r' hits hits'
  agreeing (Ok a) (Ok a') p p' cap cap' b b' h h' hold hold' alike patches =
      let one = p cap b h hold in
      let two = p' cap' b' h' hold' in
      let o : Other x.models (contents x.models cap h) q y.models cap' b' h' q budget' (reply a' hits') = record {
        some = some;
        lawful = lawful;
        aggregate = aggregate;
        made = hold'.granted;
        fit = hold'.fit;
        alike = alike;
        patches = patches;
        same = record { rows = refl; weights = refl; aggregate = λ xs e. refl; k = refl; radius = refl };
        rule = two.rule;
      } in
      record {
        begins = one.agrees y.models cap' b' h' q budget' (reply a' hits') o;
        both = λ d d'. one.finished d ∙ sym (one.other y.models cap' b' h' q budget' (reply a' hits') o d');
      }
  agreeing (Ok a) (Err e) p p' cap cap' b b' h h' hold hold' alike patches = tt
  agreeing (Err e) r' p p' cap cap' b b' h h' hold hold' alike patches = tt
