-- What a call moves is never more than what was left. To cite:
--   More, more      a call that moved something: what has gone then is within the whole
--   none            a call that moved nothing, or failed
--   rest-moved      what a call on the rest of a list answers, said of the list's length
--   read-moved      the same of a list that was changed and is as long
--   kept            where `!b` was not taken, b holds
--   counted         so many bytes at the front
--   not-begun       a text behind one that did not go
--   handed          a text that went, or of which fewer bytes did than it has
--   read_none, read_some   an input that could not be read; one that ended, or filled the cells
--   went-more       what a writer took of a text's rest stands behind what it took before
--   taken-more      what a reader gave into the cells behind `done` stands behind what it gave before
--   beginning       what was read of an input is its beginning, as much as there are cells for
--   front-went      a text that was handed on where all before it went: its front went
-- Assumes nothing.
use Rattle.std.specs.Prelude.{◌≡◌, ◌++◌, ltb, IfSome, refl, Bool, true, false, not, List, ℕ, ◌+◌, ◌-◌, ◌≤◌, ◌<◌, length, take, drop, Option, None, Some, Result, Ok, Err, IfErr, MatchResult, is_ok}
use Rattle.std.proofs.Common.{ltb-true, ltb-false, append-nil, take_all, take_at, sym, subst, ap, ◌∙◌, true≢false, eqb-true, arith, length-drop, length-take-le}
use Rattle.std.specs.Io.KnownBytes.{Appends, Consumes, IsAtEnd, Keeps, WriteAppends}
use Rattle.stream.specs.declared.output.Unwritten.{Unwritten}
use Rattle.stream.specs.declared.input.Unread.{Unread}
use Rattle.stream.specs.Stream.{IsPrefixLen, gone, Moved, HandedOn, ReadInto, FrontWent, sent}
use Rattle.std.proofs.lemmas.Bool.{eq-eqb, ne_eqb}
use lib.Seq.{take-add}
use Rattle.std.proofs.KnownBytes.{Appends-trans, Consumes-trans, Consumes-kept}

pub record More {E : Type 0} (d a k : ℕ) (r : Result ℕ E) : Type 0 where
  pub within : d + k ≤ a
  pub is : d + k ≡ gone d r

pub more : {E : Type 0} (d a k : ℕ) (r : Result ℕ E) → r ≡ Ok k → d ≤ a → Moved (a - d) r → More d a k r
more {E} d a k r e h m = subst (λ (r : Result ℕ E). More d a k r) (sym e) (go (subst (λ (r : Result ℕ E). Moved (a - d) r) e m))
  where
    go : Moved {E = E} (a - d) (Ok k) → More {E = E} d a k (Ok k)
    go m = record { within = omega arith; is = refl }

pub none : {E : Type 0} (d : ℕ) (r : Result ℕ E) → Moved 0 r → d ≡ gone d r
none d (Ok k) h = omega arith
none d (Err e) h = refl

rest-length : (xs : List ℕ) (d : ℕ) → length (take (length xs - d) (drop d xs)) ≡ length xs - d
rest-length xs d =
    let e = length-drop d xs in
    let h : length xs - d ≤ length (drop d xs) = omega (arith, e) in
    length-take-le (length xs - d) (drop d xs) h

pub rest-moved : {E : Type 0} (xs : List ℕ) (d : ℕ) (r : Result ℕ E) → Moved (length (take (length xs - d) (drop d xs))) r → Moved (length xs - d) r
rest-moved xs d r m = subst (λ (n : ℕ). Moved n r) (rest-length xs d) m

pub read-moved : {E : Type 0} (n m d : ℕ) (r : Result ℕ E) → m ≡ n → Moved (n - d) r → Moved (m - d) r
read-moved n m d r l h = subst (λ (k : ℕ). Moved (k - d) r) (sym l) h

pub counted : (n : ℕ) (xs : List ℕ) → n ≤ length xs → IsPrefixLen n xs
counted n xs h = (h, sym (length-take-le n xs h))

pub kept : (b : Bool) → not b ≡ false → b ≡ true
kept true e = refl
kept false e = absurd (true≢false e)

pub not-begun : {A : Type 0} (before : Bool) (text : List ℕ) → not before ≡ true → HandedOn {A = A} before text (Err (record { length = 0 }))
not-begun true text e = absurd (true≢false (sym e))
not-begun false text e = record { front = omega arith; told = refl }

pub handed : {A : Type 0} (before : Bool) (text : List ℕ) (r : Result A Unwritten) → not before ≡ false → IfErr r (λ u. u.length < length text)
    → HandedOn before text r
handed true text (Ok x) e h = record { front = omega arith; told = sym (eq-eqb (length text) (length text) refl) }
handed true text (Err u) e h = record { front = omega (arith, h); told = sym (ne_eqb u.length (length text) (λ q. omega (arith, h, q))) }
handed false text r e h = absurd (true≢false e)

pub read_none : (u : Unread) (before after : List ℕ) → length after ≡ length before → 0 < length after → ReadInto before after (Err u)
read_none u before after e h = record { cells = e; front = h }

pub read_some : (n : ℕ) (before after : List ℕ) → length after ≡ length before → n ≤ length after → ReadInto before after (Ok n)
read_some n before after e h = record { cells = e; front = h }

-- ---- the bytes themselves, where they are known

appends-kept : (a b c : Option (List ℕ)) (bs : List ℕ) → Appends a b bs → Keeps b c → Appends a c bs
appends-kept None b c bs p q = tt
appends-kept (Some x) None c bs p q = absurd p
appends-kept (Some x) (Some y) None bs p q = absurd q
appends-kept (Some x) (Some y) (Some z) bs p q = q ∙ p

pub went-more : {E : Type 0} (a b c : Option (List ℕ)) (text : List ℕ) (done n : ℕ) (r : Result ℕ E) → n ≡ gone done r
    → Appends a b (take done text) → WriteAppends b c r (drop done text) → Appends a c (take n text)
went-more a b c text done n (Ok k) e before write =
    subst (Appends a c) (sym (ap (λ (m : ℕ). take m text) e ∙ take-add done k text)) (Appends-trans a b c _ _ before write)
went-more a b c text done n (Err x) e before write = subst (λ (m : ℕ). Appends a c (take m text)) (sym e) (appends-kept a b c _ before write)

pub taken-more : {E : Type 0} (a b c : Option (List ℕ)) (old new : List ℕ) (done n : ℕ) (r : Result ℕ E) → n ≡ gone done r → take done new ≡ take done old
    → Consumes a b (take done old) → MatchResult r (λ k. Consumes b c (take k (drop done new))) (λ _. Keeps b c) → Consumes a c (take n new)
taken-more a b c old new done n (Ok k) e front before read =
    subst (Consumes a c) (sym (ap (λ (m : ℕ). take m new) e ∙ take-add done k new)) (Consumes-trans a b c _ _ (subst (Consumes a b) (sym front) before) read)
taken-more a b c old new done n (Err x) e front before read =
    subst (λ (m : ℕ). Consumes a c (take m new)) (sym e) (Consumes-kept a b c _ (subst (Consumes a b) (sym front) before) read)

pub front-went : {A : Type 0} (before : Bool) (a b : Option (List ℕ)) (text : List ℕ) (r : Result A Unwritten) → before ≡ true → HandedOn before text r
    → Appends a b (take (sent text r) text) → FrontWent (is_ok r) a b text
front-went true a b text r e h went = record { count = sent text r; within = h.front; went = went; all = λ w. eqb-true (sent text r) (length text) (sym h.told ∙ w) }
front-went false a b text r e h went = absurd (true≢false (sym e))

-- a reader that had `xs` gave their front: all of them, where there were no more, or as many as there are cells
pub beginning : (most : ℕ) (a b : Option (List ℕ)) (got : ℕ) (bytes : List ℕ) → length bytes ≡ most → got ≤ length bytes → Consumes a b (take got bytes)
    → (got < length bytes → IsAtEnd b) → IfSome a (λ xs. take got bytes ≡ take most xs)
beginning most None b got bytes long within read end = tt
beginning most (Some xs) None got bytes long within read end = absurd read
beginning most (Some xs) (Some ys) got bytes long within read end = go (ltb got (length bytes)) (ltb-true got (length bytes)) (ltb-false got (length bytes))
  where
    size : length (take got bytes) ≡ got
    size = length-take-le got bytes within

    go : (t : Bool) → (t ≡ true → got < length bytes) → (t ≡ false → length bytes ≤ got) → take got bytes ≡ take most xs
    go true y m =
        let all : xs ≡ take got bytes = read ∙ ap (λ (l : List ℕ). take got bytes ++ l) (end (y refl)) ∙ append-nil (take got bytes) in
        sym (ap (take most) all ∙ take_all most (take got bytes) (omega (arith, size)))
    go false y m =
        let full : length (take got bytes) ≡ most = let h = m refl in omega (arith, size) in
        sym (ap (take most) read ∙ take_at (take got bytes) ys most full)
