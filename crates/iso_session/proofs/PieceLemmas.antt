-- Where the limits of an engine may be met: heap and frames, each by its bound.
use Rattle.std.proofs.Common.{Result, Ok, Err, IfOk}
use Rattle.iso_model.specs.Search.Engines.{KeepsLimits, MayMeet}
use Rattle.iso_model.specs.Search.Walker.{State}
use Rattle.iso_model.specs.declared.limit.Limit.TheVariants as limit

-- the pieces that are named for the heap and for the frames are among these
both_limits : (Above Over HeapPieces FramesPieces : State → Type 0) → ((s : State) → HeapPieces s → Above s)
    → ((s : State) → FramesPieces s → Over s) → KeepsLimits (MayMeet Above Over) (MayMeet HeapPieces FramesPieces)
both_limits Above Over HeapPieces FramesPieces above over limit.Heap s h = above s h
both_limits Above Over HeapPieces FramesPieces above over limit.Frames s h = over s h
both_limits Above Over HeapPieces FramesPieces above over limit.Memory s h = tt

-- so of an engine that was made
pub made_limits : {E F : Type 0} (Above Over : State → Type 0) (HeapPieces FramesPieces : E → State → Type 0)
    (r : Result E F) → IfOk r (λ e. (s : State) → HeapPieces e s → Above s)
    → IfOk r (λ e. (s : State) → FramesPieces e s → Over s)
    → IfOk r (λ e. KeepsLimits (MayMeet Above Over) (MayMeet (HeapPieces e) (FramesPieces e)))
made_limits Above Over HeapPieces FramesPieces (Ok e) above over =
    both_limits Above Over (HeapPieces e) (FramesPieces e) above over
made_limits Above Over HeapPieces FramesPieces (Err f) above over = tt
