-- Reading groups. To cite:
--   Behind, read_behind   what is read of bytes, and of them with others behind: the same, unless they end
--   Groups, read-groups   what is read of bytes: groups whose bytes are in front, or too many, or some that end early
--   bytes_read            the bytes of groups are read as these
--   rest-bytes            bytes without the first
-- Assumes nothing.
use Rattle.std.specs.Prelude.{◌≡◌, refl, Bool, true, false, cond, List, [], ◌∷◌, ◌++◌, ℕ, zero, suc, ◌+◌, ◌-◌, ◌<◌, ◌≤◌, ltb, pos, length}
use Rattle.std.proofs.Common.{ap, arith, lt-ltb, le-ltb, ltb-true, ltb-false}
use Rattle.number.specs.Number.{Bytes, group, needless, bytes_of, Reading, got, no, next, read_groups}
use Rattle.number.proofs.GroupsLaws.{SevenBits, seven-more, seven-behind, seven-one}

-- t is behind the bytes
pub data Behind (k : ℕ) (bs t : List ℕ) : Reading (List ℕ) → Reading (List ℕ) → Type 0 where
  taken :
      (g : ℕ) (gs front rest : List ℕ) → bs ≡ front ++ rest → length front ≡ suc (length gs)
      → Behind k bs t (got (g ∷ gs) rest) (got (g ∷ gs) (rest ++ t))
  over : Behind k bs t (no (pos 8)) (no (pos 8))
  cut : (r : Reading (List ℕ)) → length bs < k → Behind k bs t (no (pos 7)) r

pub read_behind : (k : ℕ) (bs t : List ℕ) → Behind k bs t (read_groups k bs) (read_groups k (bs ++ t))
unfolding read_groups
read_behind zero bs t = over
read_behind (suc k) [] t = cut _ (omega arith)
read_behind (suc k) (b ∷ bs) t = go (ltb b group) (read_behind k bs t)
  where
    go : (s : Bool) {r r' : Reading (List ℕ)} → Behind k bs t r r'
        → Behind (suc k) (b ∷ bs) t (cond s (got (b ∷ []) bs) (next r (λ gs rest. got ((b - group) ∷ gs) rest)))
        (cond s (got (b ∷ []) (bs ++ t)) (next r' (λ gs rest. got ((b - group) ∷ gs) rest)))
    go true h = taken b [] (b ∷ []) bs refl refl
    go false (taken g gs front rest e l) = taken (b - group) (g ∷ gs) (b ∷ front) rest (ap (λ (l : List ℕ). b ∷ l) e) (ap suc l)
    go false over = over
    go false (cut r h) = cut _ (omega arith)

-- bytes that end early are those of a number without its last, 1
pub data Groups (k : ℕ) (bs : List ℕ) : Reading (List ℕ) → Type 0 where
  taken : (g : ℕ) (gs rest : List ℕ) → SevenBits (g ∷ gs) → length (g ∷ gs) ≤ k → bs ≡ bytes_of (g ∷ gs) ++ rest → Groups k bs (got (g ∷ gs) rest)
  over : Groups k bs (no (pos 8))
  cut :
      (g : ℕ) (gs : List ℕ) → SevenBits (g ∷ gs) → length (g ∷ gs) ≤ k → bytes_of (g ∷ gs) ≡ bs ++ (1 ∷ []) → ((x : ℕ) → needless (x ∷ g ∷ gs) ≡ false)
      → Groups k bs (no (pos 7))

pub rest-bytes : {b : ℕ} {bs : List ℕ} → Bytes (b ∷ bs) → Bytes bs
rest-bytes h = record { each = λ i. h.each (suc i) }

pub read-groups : (k : ℕ) (bs : List ℕ) → Bytes bs → Groups k bs (read_groups k bs)
unfolding read_groups bytes_of needless
read-groups zero bs h = over
read-groups (suc k) [] h = cut 1 [] (seven-one (omega arith)) (omega arith) refl (λ x. refl)
read-groups (suc k) (b ∷ bs) h = go (ltb b group) (ltb-true b group) (ltb-false b group) (read-groups k bs (rest-bytes h))
  where
    go : (s : Bool) → (s ≡ true → b < group) → (s ≡ false → group ≤ b) → {r : Reading (List ℕ)} → Groups k bs r
        → Groups (suc k) (b ∷ bs) (cond s (got (b ∷ []) bs) (next r (λ gs rest. got ((b - group) ∷ gs) rest)))
    go true y m f = taken b [] bs (seven-one (y refl)) (omega arith) refl
    go false y m over = over
    go false y m (taken g gs rest s l e) =
        let large : group ≤ b = m refl in
        let byte : b < 256 = h.each 0 in
        let is : b ≡ group + (b - group) = omega arith in
        taken (b - group) (g ∷ gs) rest (seven-more (omega arith) s) (omega arith) (λ i. is i ∷ e i)
    go false y m (cut g gs s l e f) =
        let large : group ≤ b = m refl in
        let byte : b < 256 = h.each 0 in
        let is : group + (b - group) ≡ b = omega arith in
        cut (b - group) (g ∷ gs) (seven-more (omega arith) s) (omega arith) (λ i. is i ∷ e i) (λ x. f (b - group))

pub bytes_read : (k g : ℕ) (gs rest : List ℕ) → SevenBits (g ∷ gs) → length (g ∷ gs) ≤ k → read_groups k (bytes_of (g ∷ gs) ++ rest) ≡ got (g ∷ gs) rest
unfolding read_groups bytes_of
bytes_read zero g gs rest s h = absurd (omega arith)
bytes_read (suc k) g [] rest s h = let l : g < group = s.each 0 in simp (lt-ltb g group l)
bytes_read (suc k) g (h ∷ gs) rest s l =
    let is : group + g - group ≡ g = omega arith in
    simp (le-ltb (group + g) group (omega arith), bytes_read k h gs rest (seven-behind s) (omega arith), is)
