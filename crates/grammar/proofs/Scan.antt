-- Reading a table word by word: what may come next, by the words that came before.
use Rattle.std.proofs.Common.{◌≡◌, ℕ, suc, Bool, true, false, cond, not, eqb, ltb, leb, List, [], ◌∷◌, length, replicate, refl}
use Rattle.words.specs.Words.{kind_of, payload_of, clean, count_in}
use Rattle.grammar.specs.declared.reason.Reason.{Reason}
use Rattle.grammar.specs.declared.reason.Reason.TheVariants.{OutOfTurn, StrayBit, OutOfRange}
use Rattle.grammar.specs.Writing.{Limits}

-- what a part that has begun still waits for
pub data Slot : Type 0 where
  operand : Slot
  term : Slot

-- the kind of the last part's first word, 0 before the first rule; the amounts of the rule that is open; the rules so far
pub record Stage : Type 0 where
  pub phase : ℕ
  pub heads : ℕ
  pub guards : ℕ
  pub body : ℕ
  pub rules : ℕ

abbrev pub start : Stage
start = record { phase = 0; heads = 0; guards = 0; body = 0; rules = 0 }

abbrev pub within : ℕ → ℕ → ℕ → Bool
within low n high = cond (leb low n) (leb n high) false

-- which kinds may come next
abbrev pub turn : List Slot → Stage → ℕ → Bool
turn (operand ∷ P) s k = cond (eqb k 6) true (eqb k 7)
turn (term ∷ P) s k = cond (eqb k 8) true (cond (eqb k 9) true (cond (eqb k 6) true (eqb k 7)))
turn [] s k =
    cond (eqb k 15) (not (eqb s.phase 1))
    (cond (eqb k 1) (not (eqb s.phase 1))
    (cond (eqb k 2) (within 1 s.phase 2)
    (cond (eqb k 3) (within 1 s.phase 3)
    (cond (eqb k 4) (within 2 s.phase 4)
    (cond (eqb k 5) (within 2 s.phase 5) false)))))

-- there is room for one more, and the number in its payload is in range
abbrev pub room : ℕ → ℕ → ℕ → Bool
room used most n = cond (ltb used most) (not (ltb 3 (count_in n))) false

abbrev pub fits : Limits → Stage → ℕ → ℕ → Bool
fits L s k n =
    cond (eqb k 6) (not (ltb 7 (count_in n)))
    (cond (eqb k 1) (ltb s.rules L.rules)
    (cond (eqb k 2) (room s.heads L.heads n)
    (cond (eqb k 3) (room s.heads L.heads n)
    (cond (eqb k 4) (room s.guards L.guards n)
    (cond (eqb k 5) (room s.body L.body n) true)))))

-- what is waited for after a word
abbrev pub next : List Slot → ℕ → ℕ → List Slot
next (operand ∷ P) k n = P
next (term ∷ P) k n = cond (eqb k 8) (operand ∷ operand ∷ P) (cond (eqb k 9) (operand ∷ operand ∷ P) P)
next [] k n =
    cond (eqb k 2) (replicate (count_in n) operand)
    (cond (eqb k 3) (replicate (count_in n) operand)
    (cond (eqb k 4) (term ∷ term ∷ [])
    (cond (eqb k 5) (replicate (count_in n) term) [])))

abbrev pub opened : Stage → Stage
opened s = record { phase = 1; heads = 0; guards = 0; body = 0; rules = suc s.rules }

abbrev pub headed : ℕ → Stage → Stage
headed k s = record { phase = k; heads = suc s.heads; guards = s.guards; body = s.body; rules = s.rules }

abbrev pub guarded : Stage → Stage
guarded s = record { phase = 4; heads = s.heads; guards = suc s.guards; body = s.body; rules = s.rules }

abbrev pub embodied : Stage → Stage
embodied s = record { phase = 5; heads = s.heads; guards = s.guards; body = suc s.body; rules = s.rules }

abbrev pub moved : List Slot → Stage → ℕ → Stage
moved (x ∷ P) s k = s
moved [] s k =
    cond (eqb k 1) (opened s)
    (cond (eqb k 2) (headed 2 s)
    (cond (eqb k 3) (headed 3 s)
    (cond (eqb k 4) (guarded s)
    (cond (eqb k 5) (embodied s) s))))

-- the words after END, or the reason of the first fault and how many words were left there
pub data Seen : Type 0 where
  done : List ℕ → Seen
  stop : Reason → ℕ → Seen

abbrev pub scan : Limits → List Slot → Stage → List ℕ → Seen
scan L P s [] = stop OutOfTurn 0
scan L P s (w ∷ ws) =
    cond (turn P s (kind_of w))
    (cond (clean w)
    (cond (fits L s (kind_of w) (payload_of w))
    (cond (eqb (kind_of w) 15) (done ws) (scan L (next P (kind_of w) (payload_of w)) (moved P s (kind_of w)) ws))
    (stop OutOfRange (suc (length ws))))
    (stop StrayBit (suc (length ws))))
    (stop OutOfTurn (suc (length ws)))

-- a test is true or false
pub tested : {C : Type 0} (b : Bool) → (b ≡ true → C) → (b ≡ false → C) → C
tested true f g = f refl
tested false f g = g refl

-- one word, given its kind
module _ (L : Limits) (P : List Slot) (s : Stage) (w : ℕ) (ws : List ℕ) (k : ℕ) (e : kind_of w ≡ k) where
  pub scan_turn : turn P s k ≡ false → scan L P s (w ∷ ws) ≡ stop OutOfTurn (suc (length ws))
  scan_turn t = rw (e, t)

  pub scan_stray : turn P s k ≡ true → clean w ≡ false → scan L P s (w ∷ ws) ≡ stop StrayBit (suc (length ws))
  scan_stray t c = rw (c, e, t)

  pub scan_range : turn P s k ≡ true → clean w ≡ true → fits L s k (payload_of w) ≡ false →
      scan L P s (w ∷ ws) ≡ stop OutOfRange (suc (length ws))
  scan_range t c f = rw (c, e, t, f)

  pub scan_end : turn P s k ≡ true → clean w ≡ true → fits L s k (payload_of w) ≡ true → eqb k 15 ≡ true →
      scan L P s (w ∷ ws) ≡ done ws
  scan_end t c f x = rw (c, e, t, f, x)

  pub scan_on : turn P s k ≡ true → clean w ≡ true → fits L s k (payload_of w) ≡ true → eqb k 15 ≡ false →
      scan L P s (w ∷ ws) ≡ scan L (next P k (payload_of w)) (moved P s k) ws
  scan_on t c f x = rw (c, e, t, f, x)
