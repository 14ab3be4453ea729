-- Parts and rules of a list, written one after the other.
use Rattle.std.proofs.Common.{◌≡◌, ℕ, ◌+◌, ◌<◌, ◌≤◌, List, [], ◌∷◌, ◌++◌, map, length, get_or, drop, set, sym, refl, ap, ◌∙◌, subst, ap₂, arith}
use Rattle.std.specs.List.{flat_map, AllByRecursion}
use Rattle.std.proofs.lemmas.List.{append_assoc, length-append, drop_more}
use Rattle.std.proofs.ByRecursion.{All-drop}
use Rattle.words.specs.Words.{word}
use Rattle.grammar.specs.Atoms.{Head, BodyFact}
use Rattle.grammar.specs.declared.part.Guard.{Guard}
use Rattle.grammar.specs.declared.rule.Rule.{Rule}
use Rattle.grammar.specs.Writing.{head_words, guard_words, body_words}
use Rattle.writer.specs.Memory.{placed}
use Rattle.writer.specs.Tables.{words_of}
use Rattle.writer.proofs.Places.{Puts, puts_one, puts_more, room_on, placed_more}

next_item : {X : Type 0} (xs : List X) (i : ℕ) (x : X) → i < length xs → x ≡ get_or xs i x → drop i xs ≡ x ∷ drop (i + 1) xs
next_item xs i x h e = drop_more xs i x h ∙ ap (λ y. y ∷ drop (i + 1) xs) (sym e)

module _ {X : Type 0} (P : X → Type 0) (xs : List X) (i : ℕ) (x : X) (h : i < length xs) (e : x ≡ get_or xs i x) where
  pub all_here : AllByRecursion P (drop i xs) → P x
  all_here a = (subst (AllByRecursion P) (next_item xs i x h e) a).0

  pub all_next : AllByRecursion P (drop i xs) → AllByRecursion P (drop (i + 1) xs)
  all_next a = (subst (AllByRecursion P) (next_item xs i x h e) a).1

  pub all_at : AllByRecursion P xs → P x
  all_at a = all_here (All-drop P i xs a)

module _ {X : Type 0} (f : X → List ℕ) (xs : List X) (i : ℕ) where
  -- the words that are left, put behind those so far, make all
  abbrev pub Left : (end : ℕ) (m : List ℕ) (at : ℕ) (all before : List ℕ) → Type 0
  Left end m at all before =
      (placed end (flat_map f (drop i xs)) m ≡ placed at all before) × (end + length (flat_map f (drop i xs)) ≡ at + length all)

  module _ (end : ℕ) (m : List ℕ) (at : ℕ) (all before : List ℕ) (p : Left end m at all before) where
    module _ (x : X) (h : i < length xs) (e : x ≡ get_or xs i x) (room : at + length all ≤ length m) where
      words : flat_map f (drop i xs) ≡ f x ++ flat_map f (drop (i + 1) xs)
      words = ap (flat_map f) (next_item xs i x h e)

      pub puts_next : (n : ℕ) (m' : List ℕ) → Puts end (f x) m n m' →
          (placed n (flat_map f (drop (i + 1) xs)) m' ≡ placed at all before) × (n + length (flat_map f (drop (i + 1) xs)) ≡ at + length all)
      puts_next n m' q =
          let w = ap length words in
          let l = length-append (f x) (flat_map f (drop (i + 1) xs)) in
          let s = p.1 in
          let o : n ≡ end + length (f x) = q.1 in (
            ap (placed n (flat_map f (drop (i + 1) xs))) q.0
                ∙ placed_more end n (f x) (flat_map f (drop (i + 1) xs)) m o (omega arith)
                ∙ ap (λ (v : List ℕ). placed end v m) (sym words) ∙ p.0,
            omega arith,
          )

room_first : (at : ℕ) (xs ys m : List ℕ) → at + length (xs ++ ys) ≤ length m → at + length xs ≤ length m
room_first at xs ys m h = let l = length-append xs ys in omega arith

-- a rule: its RULE word, then kept heads, taken heads, guards and body facts
module _ (at w : ℕ) (ks ts gs bs m : List ℕ) (h : at + length (w ∷ ((ks ++ ts) ++ (gs ++ bs))) ≤ length m) where
  all_room : at + length ((w ∷ []) ++ (ks ++ (ts ++ (gs ++ bs)))) ≤ length m
  all_room = subst (λ (v : List ℕ). at + length (w ∷ v) ≤ length m) (append_assoc ks ts (gs ++ bs)) h

  first_word : Puts at (w ∷ []) m (at + 1) (set m at w)
  first_word = puts_one at w m (omega arith)

  from_kept : at + 1 + length (ks ++ (ts ++ (gs ++ bs))) ≤ length (set m at w)
  from_kept = room_on at (at + 1) (w ∷ []) (ks ++ (ts ++ (gs ++ bs))) m (set m at w) all_room first_word

  pub room_kept : at + 1 + length ks ≤ length (set m at w)
  room_kept = room_first (at + 1) ks (ts ++ (gs ++ bs)) (set m at w) from_kept

  module _ (n : ℕ) (m' : List ℕ) (p : Puts (at + 1) ks (set m at w) n m') where
    from_taken : n + length (ts ++ (gs ++ bs)) ≤ length m'
    from_taken = room_on (at + 1) n ks (ts ++ (gs ++ bs)) (set m at w) m' from_kept p

    pub room_taken : n + length ts ≤ length m'
    room_taken = room_first n ts (gs ++ bs) m' from_taken

    module _ (i : ℕ) (m'' : List ℕ) (q : Puts n ts m' i m'') where
      from_guards : i + length (gs ++ bs) ≤ length m''
      from_guards = room_on n i ts (gs ++ bs) m' m'' from_taken q

      pub room_guards : i + length gs ≤ length m''
      room_guards = room_first i gs bs m'' from_guards

      module _ (j : ℕ) (m3 : List ℕ) (s : Puts i gs m'' j m3) where
        pub room_body : j + length bs ≤ length m3
        room_body = room_on i j gs bs m'' m3 from_guards s

        pub rule_puts : (r : ℕ) (m4 : List ℕ) → Puts j bs m3 r m4 → Puts at (w ∷ ((ks ++ ts) ++ (gs ++ bs))) m r m4
        rule_puts r m4 u =
            subst (λ (v : List ℕ). Puts at (w ∷ v) m r m4) (sym (append_assoc ks ts (gs ++ bs)))
            (puts_more at (at + 1) r (w ∷ []) (ks ++ (ts ++ (gs ++ bs))) m (set m at w) m4 all_room first_word
            (puts_more (at + 1) n r ks (ts ++ (gs ++ bs)) (set m at w) m' m4 from_kept p
            (puts_more n i r ts (gs ++ bs) m' m'' m4 from_taken q (puts_more i j r gs bs m'' m3 m4 from_guards s u))))

-- the words of a rule, by its RULE word and the lists of its parts
pub record IsListed (r : Rule) (w : ℕ) (ks ts : List Head) (gs : List Guard) (bs : List BodyFact) : Type 0 where
  pub label : w ≡ word 1 r.label
  pub kept : ks ≡ r.kept.items
  pub taken : ts ≡ r.taken.items
  pub guards : gs ≡ r.guards.items
  pub body : bs ≡ r.body.items

abbrev pub kept_words : List Head → List ℕ
kept_words = flat_map (head_words 2)

abbrev pub taken_words : List Head → List ℕ
taken_words = flat_map (head_words 3)

abbrev pub guards_words : List Guard → List ℕ
guards_words = flat_map guard_words

abbrev pub bodies_words : List BodyFact → List ℕ
bodies_words = flat_map body_words

module _ {r : Rule} {w : ℕ} {ks ts : List Head} {gs : List Guard} {bs : List BodyFact} (l : IsListed r w ks ts gs bs) where
  same_rule : w ∷ ((kept_words ks ++ taken_words ts) ++ (guards_words gs ++ bodies_words bs)) ≡ words_of r
  same_rule =
      ap₂ (λ (n : ℕ) (v : List ℕ). n ∷ v) l.label
      (ap₂ (λ (u v : List ℕ). u ++ v)
      (ap₂ (λ (x y : List Head). kept_words x ++ taken_words y) l.kept l.taken)
      (ap₂ (λ (x : List Guard) (y : List BodyFact). guards_words x ++ bodies_words y) l.guards l.body))

  module _ (at : ℕ) (m : List ℕ) (room : at + length (words_of r) ≤ length m) where
    whole_room : at + length (w ∷ ((kept_words ks ++ taken_words ts) ++ (guards_words gs ++ bodies_words bs))) ≤ length m
    whole_room = subst (λ (v : List ℕ). at + length v ≤ length m) (sym same_rule) room

    pub kept_fit : at + 1 + length (kept_words ks) ≤ length (set m at w)
    kept_fit = room_kept at w (kept_words ks) (taken_words ts) (guards_words gs) (bodies_words bs) m whole_room

    module _ (n : ℕ) (m' : List ℕ) (p : Puts (at + 1) (kept_words ks) (set m at w) n m') where
      pub taken_fit : n + length (taken_words ts) ≤ length m'
      taken_fit = room_taken at w (kept_words ks) (taken_words ts) (guards_words gs) (bodies_words bs) m whole_room n m' p

      module _ (i : ℕ) (m'' : List ℕ) (q : Puts n (taken_words ts) m' i m'') where
        pub guards_fit : i + length (guards_words gs) ≤ length m''
        guards_fit = room_guards at w (kept_words ks) (taken_words ts) (guards_words gs) (bodies_words bs) m whole_room n m' p i m'' q

        module _ (j : ℕ) (m3 : List ℕ) (s : Puts i (guards_words gs) m'' j m3) where
          pub body_fit : j + length (bodies_words bs) ≤ length m3
          body_fit = room_body at w (kept_words ks) (taken_words ts) (guards_words gs) (bodies_words bs) m whole_room n m' p i m'' q j m3 s

          pub rule_put : (e : ℕ) (m4 : List ℕ) → Puts j (bodies_words bs) m3 e m4 → Puts at (words_of r) m e m4
          rule_put e m4 u =
              subst (λ (v : List ℕ). Puts at v m e m4) same_rule
              (rule_puts at w (kept_words ks) (taken_words ts) (guards_words gs) (bodies_words bs) m whole_room n m' p i m'' q j m3 s e m4 u)

pub joined_map : {X Y : Type 0} (f : Y → List ℕ) (k : X → Y) (xs : List X) → flat_map f (map k xs) ≡ flat_map (λ x. f (k x)) xs
joined_map f k [] = refl
joined_map f k (x ∷ xs) = ap (λ (v : List ℕ). f (k x) ++ v) (joined_map f k xs)

-- the words of a rule, part after part: as many as its parts have
pub rule_size_lem : (w : ℕ) (ks ts gs bs : List ℕ) (a b c d : ℕ) → a ≡ length ks → b ≡ length ts → c ≡ length gs → d ≡ length bs →
    1 + a + b + c + d ≡ length (w ∷ ((ks ++ ts) ++ (gs ++ bs)))
rule_size_lem w ks ts gs bs a b c d e f g h =
    let i = length-append (ks ++ ts) (gs ++ bs) in
    let j = length-append ks ts in
    let k = length-append gs bs in
    omega arith
