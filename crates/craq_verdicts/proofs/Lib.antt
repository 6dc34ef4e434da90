mod Asking
mod Going
mod Opening
mod Verdicts
