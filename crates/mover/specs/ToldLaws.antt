-- What the program tells, and what it hands on. To cite:
--   is-new, is-old, is-neither   what a word asks for, from how it compares with the two words
--   refusal_is                   lent bytes for the longest drawing have room for every one, so that moving into them refuses what the move does
--   Handed, handed               where it does not refuse, the moved bytes stand in front
--   refused-told                 what is told where a move is refused
--   tells-refused, tells-moved   the status of a drawing, from what `status_of` answers
--   writes-refused, writes-moved  what is written of a drawing, from what was handed on
--   moves-unread, moves-input     what is told and written of an input, where it could not be read, and of its beginning
-- Assumes nothing.
use Rattle.std.specs.Prelude.{◌≡◌, refl, Bool, true, false, List, ◌++◌, ℕ, zero, suc, ◌≤◌, ℤ, pos, negsuc, length, take, drop, Option, None, Some, ◌+◌, ◌<◌, IfSome, Result, Ok, Err, is_ok}
use Rattle.std.specs.Io.KnownBytes.{Consumes, IsAtEnd, Keeps}
use Rattle.std.proofs.Common.{sym, subst, ◌∙◌, true≢false, inl, inr, arith, le-ltb, length-append, take_at}
use Rattle.std.proofs.Math.Path.{ap}
use Rattle.std.proofs.Math.Bool.{cond}
use Rattle.whole.specs.ChoiceLaws.{or-none}
use Rattle.whole.specs.Tests.{eq-eq_z}
use Rattle.store.specs.declared.Form.{Form}
use Rattle.store.specs.declared.Form.TheVariants.{Old, New}
use Rattle.store.specs.Forms.{longest}
use Rattle.store.specs.Stored.{Drawing, tags_refusal, write_drawing, move_refusal, moved}
use Rattle.whole.specs.Choice.{or_else}
use Rattle.store.proofs.LongestLaws.{beginning-decides}
use Rattle.store.specs.Answers.{WriteSays, move_answer, move_into}
use Rattle.store.proofs.MoveLaws.{moved-no-longer}
use Rattle.stream.specs.declared.status.Status.{Status}
use Rattle.stream.specs.declared.status.Status.TheVariants.{Refused, Unread}
use Rattle.stream.specs.Status.{is_done, status_all, status_of}
use Rattle.stream.specs.StreamLaws.{beginning}
use Rattle.stream.specs.Stream.{FrontWent}
use Rattle.mover.specs.Told.{new_word, old_word, Asks, TellsMove, WritesMove, MovesInput}

-- ---- the word

pub is-new : (word : List ℕ) → word ≡ new_word → Asks word (Some New)
is-new word e = subst (λ (w : List ℕ). Asks w (Some New)) (sym e) Asks.to_new

pub is-old : (word : List ℕ) → word ≡ old_word → Asks word (Some Old)
is-old word e = subst (λ (w : List ℕ). Asks w (Some Old)) (sym e) Asks.to_old

pub is-neither : (word : List ℕ) (b c : Bool) → b ≡ false → c ≡ false → (word ≡ new_word → b ≡ true) → (word ≡ old_word → c ≡ true) → Asks word None
is-neither word b c e f h k = Asks.nothing (λ w. true≢false (sym (h w) ∙ e)) (λ w. true≢false (sym (k w) ∙ f))

-- ---- the bytes

module _ (f : Form) (bs lent : List ℕ) (room : length lent ≡ longest) where
  fits : move_refusal f bs ≡ pos 0 → length (moved f bs) ≤ length lent
  fits e = let h = moved-no-longer f bs e in omega (arith, h, room)

  pub refusal_is : (move_answer f bs lent).refusal ≡ move_refusal f bs
  unfolding move_answer
  refusal_is =
      or-none (move_refusal f bs) _ (λ e.
      ap (λ (t : Bool). cond t (pos 10) (pos 0)) (le-ltb (length lent) (length (moved f bs)) (fits e)))

-- so many bytes in front of `after` are the moved ones
pub record Handed (f : Form) (bs after : List ℕ) (n : ℕ) : Type 0 where
  pub within : n ≤ length after
  pub text : take n after ≡ moved f bs

stands : (result lent : List ℕ) (t u : Bool) → t ≡ true → u ≡ true → length result ≤ length lent
    → (cond t (length result) 0 ≤ length (cond u (result ++ drop (length result) lent) lent))
    × (take (cond t (length result) 0) (cond u (result ++ drop (length result) lent) lent) ≡ result)
stands result lent true true e y h = (omega (arith, length-append result (drop (length result) lent)), take_at result _ _ refl)
stands result lent true false e y h = absurd (true≢false (sym y))
stands result lent false u e y h = absurd (true≢false (sym e))

pub handed : (f : Form) (bs lent : List ℕ) (r : WriteSays) (after : List ℕ) → length lent ≡ longest → r ≡ move_answer f bs lent → after ≡ move_into f bs lent
    → move_refusal f bs ≡ pos 0 → Handed f bs after r.length
unfolding move_answer move_into
handed f bs lent r after room d c e =
    let h = stands (moved f bs) lent _ _ (eq-eq_z e) (eq-eq_z (refusal_is f bs lent room ∙ e)) (fits f bs lent room e) in
    subst (λ (n : ℕ). Handed f bs after n) (sym (ap (λ (w : WriteSays). w.length) d))
    (subst (λ (l : List ℕ). Handed f bs l (move_answer f bs lent).length) (sym c) (record { within = h.0; text = h.1 }))

-- ---- the status

pub refused-told : (n : ℤ) → (n ≡ pos 0 → ⊥) → TellsMove n Refused
refused-told (pos zero) wrong = absurd (wrong refl)
refused-told (pos (suc k)) wrong = refl
refused-told (negsuc k) wrong = refl

pub tells-refused : {A E : Type 0} (sent : Result A E) (z n : ℤ) (status : Status) → is_ok sent ≡ true → z ≡ n → (n ≡ pos 0 → ⊥)
    → status ≡ status_of sent z → TellsMove n status
tells-refused (Ok x) z n status w e wrong h = go n wrong (h ∙ ap status_all e)
  where
    go : (n : ℤ) → (n ≡ pos 0 → ⊥) → status ≡ status_all n → TellsMove n status
    go (pos zero) wrong h = absurd (wrong refl)
    go (pos (suc k)) wrong h = h
    go (negsuc k) wrong h = h
tells-refused (Err x) z n status w e wrong h = absurd (true≢false (sym w))

pub tells-moved : {A E : Type 0} (sent : Result A E) (z n : ℤ) (status : Status) → z ≡ n → n ≡ pos 0 → status ≡ status_of sent z → TellsMove n status
tells-moved sent z n status e o h = subst (λ (m : ℤ). TellsMove m status) (sym o) (go sent (h ∙ ap (status_of sent) (e ∙ o)))
  where
    go : {A E : Type 0} (sent : Result A E) → status ≡ status_of sent (pos 0) → TellsMove (pos 0) status
    go (Ok x) h = inl h
    go (Err x) h = inr h

-- ---- what is written

kept-all : (a : Option (List ℕ)) → Keeps a a
kept-all None = tt
kept-all (Some xs) = refl

pub writes-refused : (n : ℤ) (status : Status) (a : Option (List ℕ)) (bytes : List ℕ) → (n ≡ pos 0 → ⊥) → WritesMove n status a a bytes
writes-refused (pos zero) status a bytes wrong = absurd (wrong refl)
writes-refused (pos (suc k)) status a bytes wrong = kept-all a
writes-refused (negsuc k) status a bytes wrong = kept-all a

pub writes-moved : {A E : Type 0} (sent : Result A E) (z n : ℤ) (status : Status) (a b : Option (List ℕ)) (text bytes : List ℕ) → z ≡ n → n ≡ pos 0
    → status ≡ status_of sent z → text ≡ bytes → FrontWent (is_ok sent) a b text → WritesMove n status a b bytes
writes-moved sent z n status a b text bytes e o h same front =
    subst (λ (m : ℤ). WritesMove m status a b bytes) (sym o)
    (subst (λ (t : Bool). FrontWent t a b bytes) (said sent status (h ∙ ap (status_of sent) (e ∙ o)))
    (subst (FrontWent (is_ok sent) a b) same front))
  where
    said : {A E : Type 0} (sent : Result A E) (status : Status) → status ≡ status_of sent (pos 0) → is_ok sent ≡ is_done status
    said (Ok x) status h = sym (ap is_done h)
    said (Err x) status h = sym (ap is_done h)

-- ---- the input

same-refusal : (f : Form) (xs : List ℕ) → move_refusal f (take (longest + 1) xs) ≡ move_refusal f xs
unfolding move_refusal
same-refusal f xs = ap (λ (r : Drawing). or_else r.refusal (tags_refusal f r.objects)) (beginning-decides xs)

same-bytes : (f : Form) (xs : List ℕ) → moved f (take (longest + 1) xs) ≡ moved f xs
unfolding moved
same-bytes f xs = ap (λ (r : Drawing). write_drawing f r.objects) (beginning-decides xs)

pub moves-unread : (f : Form) (status : Status) (a old : Option (List ℕ)) → status ≡ Unread → IfSome a (MovesInput f status old old)
moves-unread f status None old e = tt
moves-unread f status (Some xs) old e = inl (e, kept-all old)

pub moves-input : (f : Form) (status : Status) (a b old new : Option (List ℕ)) (got : ℕ) (bytes : List ℕ) → length bytes ≡ longest + 1 → got ≤ length bytes
    → Consumes a b (take got bytes) → (got < length bytes → IsAtEnd b)
    → TellsMove (move_refusal f (take got bytes)) status → WritesMove (move_refusal f (take got bytes)) status old new (moved f (take got bytes))
    → IfSome a (MovesInput f status old new)
moves-input f status None b old new got bytes long within read end tells writes = tt
moves-input f status (Some xs) b old new got bytes long within read end tells writes =
    let front = beginning (longest + 1) (Some xs) b got bytes long within read end in
    let refusal = ap (move_refusal f) front ∙ same-refusal f xs in
    let text = ap (moved f) front ∙ same-bytes f xs in
    inr (
      subst (λ (n : ℤ). TellsMove n status) refusal tells,
      subst (λ (n : ℤ). WritesMove n status old new (moved f xs)) refusal
          (subst (WritesMove (move_refusal f (take got bytes)) status old new) text writes),
    )
