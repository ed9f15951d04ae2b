-- What a search that is granted knows of its question, and the promise that it keeps.
use Rattle.std.proofs.Common.{◌≡◌, ℕ, ◌<◌, ◌≤◌, List, ◌∷◌, length, get_or, None, sym, ◌∙◌, subst, arith}
use Rattle.std.proofs.lemmas.Bool.Decides.{nat_tests}
use Rattle.metric.specs.Model.{Model}
use Rattle.metric.specs.Channels.{Asked, AllLawful}
use Rattle.aggregate.specs.Aggregates.{LawfulAggregate}
use Rattle.patch.specs.Patches.{few, patch_width}
use Rattle.refine.specs.Questions.{Question}
use Rattle.index.specs.declared.counts.Counts.{Counts}
use Rattle.index.specs.History.{Call, Holds, nearest}
use Rattle.engine.specs.declared.records.Answer.{Answer}
use Rattle.engine.specs.declared.records.Neighbor.{Neighbor}
use Rattle.promise.specs.Held.{NearAsks}
use Rattle.promise.specs.Promise.{Promise, contents, reply}
use Rattle.promise.proofs.Kept.{kept}
use Rattle.search.specs.declared.checks.Sizes.{Sizes}
use Rattle.search.specs.Refusals.{question_refusal, search_refusal}
use Rattle.search.specs.Promised.{Searched, either}

-- what a granted question knows
pub record Agreed (row channels k : ℕ) (s : Sizes) : Type 0 where
  pub rows : s.rows ≡ row
  pub weights : s.weights ≡ channels
  pub some : 1 ≤ k

question_agreed : (row channels n k : ℕ) (s : Sizes) → question_refusal row channels n k s ≡ None → Agreed row channels k s
question_agreed row channels n k s h = record { rows = grind (arith, nat_tests); weights = grind (arith, nat_tests); some = grind (arith, nat_tests) }

pub agreed : (ms : List Model) (n : Counts) (b : List ℕ) (k : ℕ) (s : Sizes) → search_refusal ms n b k s ≡ None → Agreed (patch_width ms) (length ms) k s
agreed ms n b k s h = question_agreed (patch_width ms) (length ms) n.held k s (grind (arith, nat_tests))

-- after any history a granted search keeps the promise
pub keeps : (ms : List Model) (n : Counts) (b : List ℕ) (q : Question) (budget : ℕ) (s : Sizes) (a : Answer) (hits hits' : List Neighbor) (before after : Asked)
    → 1 ≤ length ms → AllLawful ms → LawfulAggregate q.aggregate
    → search_refusal (few ms) n b q.k s ≡ None → s.rows ≡ length q.rows → s.weights ≡ length q.weights
    → ((k : ℕ) → get_or q.rows k 0 < 256) → ((k : ℕ) → get_or q.weights k 0 < 256)
    → Searched (few ms) n b q budget a hits hits' before after
    → (cap : ℕ) (b₀ : List ℕ) (h : List Call) → Holds ms n b cap b₀ h → Promise ms (contents ms cap h) q budget (reply a hits') before after
keeps ms n b q budget s a hits hits' before after some lawful agg none er ew rows weights ran cap b₀ h hold =
    let g = agreed (few ms) n b q.k s none in
    kept ms n b b₀ cap h q budget some lawful agg
    (record { rows = record { long = sym er ∙ g.rows; bytes = rows }; weights = sym ew ∙ g.weights; small = weights; some = g.some })
    hold a hits hits' before (either before (NearAsks (few ms) n b q.rows)) after (λ c x y t. t) ran

-- a search adds itself to the history, and changes nothing
pub holds_search : (ms ms' : List Model) (n n' : Counts) (b : List ℕ) → ms' ≡ ms → n' ≡ n
    → (cap : ℕ) (b₀ : List ℕ) (h : List Call) → Holds ms n b cap b₀ h → Holds ms' n' b cap b₀ (nearest ∷ h)
holds_search ms ms' n n' b e f cap b₀ h hold =
    subst (λ (l : List Model). Holds l n' b cap b₀ (nearest ∷ h)) (sym e)
    (subst (λ (k : Counts). Holds ms k b cap b₀ (nearest ∷ h)) (sym f) (record { granted = hold.granted; fit = (tt, hold.fit); left = hold.left }))
