-- A session over an index that a history has led to.
use Rattle.std.proofs.Common.{◌≡◌, ℕ, zero, suc, ◌<◌, ◌≤◌, List, [], ◌∷◌, ◌++◌, length, get_or, Ok, Err, Result, sym, refl, ap, ◌∙◌, subst, lit<}
use Rattle.big_endian.specs.Numbers.{be16, be32}
use Rattle.metric.specs.Model.{Model}
use Rattle.metric.specs.Channels.{AllLawful}
use Rattle.patch.specs.Patches.{few}
use Rattle.aggregate.specs.Aggregates.{LawfulAggregate}
use Rattle.aggregate.specs.Choices.{chosen}
use Rattle.aggregate.specs.declared.Choice.{Choice}
use Rattle.aggregate.specs.declared.Choice.TheVariants.{Sum, Max, Min}
use Rattle.aggregate.specs.Folds.{total_lawful, greatest_lawful, smallest_lawful}
use Rattle.refusal.specs.declared.Refusal.{Refusal}
use Rattle.command.specs.declared.format.Format.{Format}
use Rattle.command.specs.Commands.{Instruction, insert, remove, add_pivot, remove_pivot, nearest, encode, Fits}
use Rattle.index.specs.History.{Call, Written, Holds, call, Fits as CallFits}
use Rattle.engine.specs.declared.records.Answer.{Answer}
use Rattle.engine.specs.declared.records.Neighbor.{Neighbor}
use Rattle.search.specs.Refusals.{handed, Granted}
use Rattle.search.specs.Promised.{question}
use Rattle.search.proofs.Granting.{keeps}
use Rattle.console.specs.Sessions.{call_of}
use Rattle.search_console.specs.Sessions.{Room, Session, over, unread, next, Says, Replies, nearest_refusal, unfollowed}
use Rattle.search_console.specs.Promises.{Kept, Tells, PromisedSession, Promised, over as all_read, unread as not_read, next as and_next}
use Rattle.search_console.proofs.Finding.{checked}

abbrev pub Bytes : List ℕ → Type 0
Bytes l = (k : ℕ) → get_or l k 0 < 256

front_bytes : (xs ys : List ℕ) → Bytes (xs ++ ys) → Bytes xs
front_bytes [] ys h k = lit< tt
front_bytes (x ∷ xs) ys h zero = h zero
front_bytes (x ∷ xs) ys h (suc k) = front_bytes xs ys (λ j. h (suc j)) k

back_bytes : (xs ys : List ℕ) → Bytes (xs ++ ys) → Bytes ys
back_bytes [] ys h = h
back_bytes (x ∷ xs) ys h = back_bytes xs ys (λ j. h (suc j))

-- the parts of a command that are bytes
abbrev Parts : Instruction → Type 0
Parts (insert a rows) = Bytes rows
Parts (remove a) = Unit {0}
Parts (add_pivot c a) = Unit {0}
Parts (remove_pivot c p) = Unit {0}
Parts (nearest g ws k r b rows) = Bytes ws × Bytes rows

parts : (i : Instruction) → Bytes (encode i) → Parts i
parts (insert a rows) h = back_bytes (be16 a) rows (λ k. h (suc k))
parts (remove a) h = tt
parts (add_pivot c a) h = tt
parts (remove_pivot c p) h = tt
parts (nearest g ws k r b rows) h =
    let x = be16 k ++ (be32 r ++ (be32 b ++ rows)) in
    let t : Bytes (ws ++ x) = λ j. h (suc (suc j)) in
    (front_bytes ws x t, back_bytes (be32 b) rows (back_bytes (be32 r) (be32 b ++ rows) (back_bytes (be16 k) (be32 r ++ (be32 b ++ rows)) (back_bytes ws x t))))

call_fits : (f : Format) (i : Instruction) → Fits f i → Parts i → CallFits (call_of i)
call_fits f (insert a rows) h p = (h.0, p)
call_fits f (remove a) h p = h
call_fits f (add_pivot c a) h p = h.1
call_fits f (remove_pivot c p) h q = tt
call_fits f (nearest g ws k r b rows) h p = tt

lawful : (c : Choice) → LawfulAggregate (chosen c)
lawful Sum = total_lawful
lawful Max = greatest_lawful
lawful Min = smallest_lawful

module _ (ms : List Model) (some : 1 ≤ length ms) (all : AllLawful ms) (f : Format) (room : Room) (cap : ℕ) (b₀ : List ℕ) where
  -- a granted search keeps the promise
  promised : (h : List Call) (w : Written) (g : ℕ) (ws : List ℕ) (k radius budget : ℕ) (rows : List ℕ) (r : Result Answer Refusal) (hits hits' : List Neighbor)
      → Holds ms w.counts w.bytes cap b₀ h → Bytes ws → Bytes rows → Replies (few ms) room w g ws k radius budget rows r hits hits'
      → Granted r (λ a. Kept ms cap h g ws k radius budget rows a hits')
  promised h w g ws k radius budget rows (Ok a) hits hits' hold small bytes s =
      let c = s.grants.aggregate in
      let e = s.grants.by_number in
      record {
        aggregate = c;
        by_number = e;
        promise =
            keeps ms w.counts w.bytes (question rows ws (chosen c) k radius) budget (handed (length rows) (length ws) room.hits room.candidates room.uppers) a hits hits' unfollowed unfollowed
            some all (lawful c) (checked (few ms) room w g ws k radius budget rows c e ∙ sym s.refuses) refl refl bytes small s.grants.searched cap b₀ h hold;
      }
  promised h w g ws k radius budget rows (Err x) hits hits' hold small bytes s = tt

  tells : (h : List Call) (w : Written) (i : Instruction) (said : List ℕ) → Holds ms w.counts w.bytes cap b₀ h → Parts i → Says (few ms) room w i said → Tells ms room cap b₀ h i said
  tells h w (insert a rows) said hold p s = subst (λ (v : Written). Says (few ms) room v (insert a rows) said) (sym hold.left) s
  tells h w (remove a) said hold p s = subst (λ (v : Written). Says (few ms) room v (remove a) said) (sym hold.left) s
  tells h w (add_pivot c a) said hold p s = subst (λ (v : Written). Says (few ms) room v (add_pivot c a) said) (sym hold.left) s
  tells h w (remove_pivot c q) said hold p s = subst (λ (v : Written). Says (few ms) room v (remove_pivot c q) said) (sym hold.left) s
  tells h w (nearest g ws k radius budget rows) said hold p s = (
    s.0,
    s.2,
    s.3.refuses ∙ ap (λ (v : Written). nearest_refusal (few ms) room v g ws k rows) (sym hold.left),
    promised h w g ws k radius budget rows s.0 s.1 s.2 hold p.0 p.1 s.3,
    s.4,
  )

  -- one more call
  more : (h : List Call) (w : Written) (c : Call) → CallFits c → Holds ms w.counts w.bytes cap b₀ h → Holds ms (call (few ms) c w).counts (call (few ms) c w).bytes cap b₀ (c ∷ h)
  more h w c t hold = record { granted = hold.granted; fit = (t, hold.fit); left = ap (call (few ms) c) hold.left }

  pub followed : (h : List Call) (w w' : Written) (input printed : List ℕ) → Bytes input → Holds ms w.counts w.bytes cap b₀ h → Session (few ms) f room w input printed w'
      → (h' : List Call) × PromisedSession ms f room cap b₀ h input printed h' × Holds ms w'.counts w'.bytes cap b₀ h'
  followed h w w' input printed bytes hold over = (h, all_read, hold)
  followed h w w' input printed bytes hold (unread e r) = (h, not_read e r, hold)
  followed h w w' input printed bytes hold (next {rest = rest} {printed = o} i said t e s go) =
      let x : Bytes (encode i ++ rest) = subst Bytes e bytes in
      let p = parts i (front_bytes (encode i) rest x) in
      let q = followed (call_of i ∷ h) (call (few ms) (call_of i) w) w' rest o (back_bytes (encode i) rest x) (more h w (call_of i) (call_fits f i t p) hold) go in
      (q.0, and_next i said t e (tells h w i said hold p s) q.1, q.2)

-- so whatever history has led to w
pub session_promised : (ms : List Model) (f : Format) (room : Room) (w w' : Written) (input before after printed : List ℕ)
    → 1 ≤ length ms → AllLawful ms → Bytes input → Session (few ms) f room w input printed w' → after ≡ before ++ printed → Promised ms f room w w' input before after
session_promised ms f room w w' input before after printed some all bytes s e = λ cap b h hold.
    let p = followed ms some all f room cap b h w w' input printed bytes hold s in
    (printed, p.0, p.1, p.2, e)
