-- `jobs::writing::Answer::put_bytes` meets its contract. Assumes nothing.
use Rattle.std.proofs.Common.{◌≡◌, ℕ, ◌+◌, ◌-◌, ◌≤◌, List, ◌++◌, length, take, min, sym, ◌∙◌, arith}
use Rattle.std.proofs.Math.Seq.{take-append-add}
use Rattle.std.proofs.lemmas.List.{length-take-le, take_at, take_min}
use Rattle.jobs.specs.Text.{Text, put}
use Rattle.jobs.proofs.writing.Answer.put_bytes.Goals as goal
use borrow.Rule.Slice.PartMut.{put_mid, post_of, mid_len, same_len_mid}

-- The first n bytes of a text lie behind those that were there: that is what there is room for
bytes_put : (len n : ℕ) (out text post : List ℕ)
    → len ≤ length out
    → n ≤ length text
    → take n text ≡ take (length out - len) text
    → take (len + n) (take len out ++ (take n text ++ post)) ≡ take (length out) (take len out ++ text)
bytes_put len n out text post h k e =
    let front : length (take len out) ≡ len = length-take-le len out h in
    let all : length (take len out) + (length out - len) ≡ length out = omega arith in
    let left : take (length (take len out) + n) (take len out ++ (take n text ++ post)) ≡ take len out ++ take n (take n text ++ post) = take-append-add _ _ _ in
    let right : take (length (take len out) + (length out - len)) (take len out ++ text) ≡ take len out ++ take (length out - len) text = take-append-add _ _ _ in
    let same : take n (take n text ++ post) ≡ take n text = take_at _ _ _ (length-take-le n text k) in
    cc

-- The memory is as long as before
room_kept : (len n : ℕ) (out text : List ℕ)
    → len + n ≤ length out
    → n ≤ length text
    → length (put_mid len (len + n - len) out (take n text)) ≡ length out
room_kept len n out text h k =
    let here : n ≡ len + n - len = omega arith in
    same_len_mid len _ out (take n text) (length-take-le n text k ∙ here ∙ sym (mid_len len (len + n) out h))

text_put : (len n : ℕ) (out text : List ℕ)
    → len ≤ length out
    → n ≡ min (length out - len) (length text)
    → ◌≡◌ {A = Text}
    record { bytes = take (len + n) (put_mid len (len + n - len) out (take n text)); room = length (put_mid len (len + n - len) out (take n text)) }
    (put record { bytes = take len out; room = length out } text)
text_put len n out text h e =
    let bytes = bytes_put len n out text (post_of len (len + n - len) out) h (omega arith) (rw e (take_min _ _)) in
    let room = room_kept len n out text (omega arith) (omega arith) in
    rw (bytes, room)

pub returns : goal.returns
returns c =
    rw (← c.self.view_is, c.copy_from_slice.ensures.after) (text_put _ _ _ _ c.self.invariant c.min-n.ensures)
