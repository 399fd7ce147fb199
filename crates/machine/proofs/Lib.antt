pub mod CallLaws
pub mod Leaves
pub mod ClockLaws
pub mod NoTrace
pub mod AsideLaws
pub mod CountLaw
pub mod SoundLaws
pub mod Numbers
