-- Offsets and widths of the rows of a patch.
use Rattle.std.proofs.Common.{◌≡◌, ℕ, ◌+◌, ◌*◌, ◌<◌, ◌≤◌, min, List, length, sum_by, sym, ap, ◌∙◌, ⊎_elim, arith}
use Rattle.std.proofs.lemmas.List.{length-take, get_or-take, take_all}
use Rattle.std.proofs.lemmas.List.Sums.{sum_by_more, sum_by-take-le}
use Rattle.std.proofs.lemmas.Bool.{cases_lt}
use Rattle.metric.specs.Model.{Model}
use Rattle.metric.specs.Channels.{at, no_model, AllLawful}
use Rattle.patch.specs.Patches.{few, width_of, offset, patch_width}

pub few_at : (ms : List Model) (c : ℕ) → c < length (few ms) → at (few ms) c ≡ at ms c
few_at ms c h = get_or-take 8 ms c no_model (omega (arith, length-take 8 ms))

pub few_lawful : (ms : List Model) → AllLawful ms → AllLawful (few ms)
few_lawful ms law c h = rw (few_at ms c h) (law c (omega (arith, length-take 8 ms)))

-- a set of at most eight channels uses them all
pub few_all : (ms : List Model) → length ms ≤ 8 → few ms ≡ ms
few_all ms h = take_all 8 ms h

pub offset_more : (ms : List Model) (c : ℕ) → c < length ms → offset ms (c + 1) ≡ offset ms c + (at ms c).width
offset_more ms c h = sum_by_more width_of ms c no_model h

-- a row ends within the patch
pub row_ends : (ms : List Model) (c : ℕ) → c < length ms → offset ms c + (at ms c).width ≤ patch_width ms
row_ends ms c h = omega (arith, offset_more ms c h, sum_by-take-le width_of ms (c + 1))

pub offset_all : (ms : List Model) (c : ℕ) → length ms ≤ c → offset ms c ≡ patch_width ms
offset_all ms c h = ap (sum_by width_of) (take_all c ms h)

-- where a walk over the channels that stops at the last comes to
pub offset_end : (ms : List Model) (i c : ℕ) → min c (length ms) ≤ i → i ≤ min c (length ms) → offset ms i ≡ offset ms c
offset_end ms i c h k = ⊎_elim
    (λ l. ap (offset ms) (let e : i ≡ c = omega arith in e))
    (λ l. offset_all ms i (omega arith) ∙ sym (offset_all ms c l))
    (cases_lt c (length ms))

-- one channel more
pub record Turn (ms : List Model) (c sum w : ℕ) : Type 0 where
  pub low : sum + w ≤ 256 * (c + 1)
  pub next : sum + w ≡ offset (few ms) (c + 1)
  pub small : c < 8

pub turn : (ms : List Model) (c sum w : ℕ) → AllLawful ms → c < length (few ms) → sum ≤ 256 * c → sum ≡ offset (few ms) c → w ≡ (at ms c).width → Turn ms c sum w
turn ms c sum w law h l e is =
    let n = length-take 8 ms in
    let f = (law c (omega arith)).few in
    let a : (at (few ms) c).width ≡ (at ms c).width = ap (λ (m : Model). m.width) (few_at ms c h) in
    let m = offset_more (few ms) c h in
    record { low = omega arith; next = omega arith; small = omega arith }
