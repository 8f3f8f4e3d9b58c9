mod ClientHandles
mod FramesHandles
